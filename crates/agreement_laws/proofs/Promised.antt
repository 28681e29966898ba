-- A verifier promises, in its view, what it knows and has accepted.
use Rattle.std.proofs.Common.{◌≡◌, ℕ, ◌+◌, ◌++◌, Option, Some, sym, subst, ⊎_elim, arith}
use Rattle.decrees.specs.declared.decree.Decree.{Decree}
use Rattle.decrees.specs.declared.ballot.Ballot.{Ballot}
use Rattle.decrees.specs.declared.ballot.Ballot.TheVariants.{Accept, Accepted, Decided, Promise, Stands}
use Rattle.decrees.specs.declared.node.Node.TheVariants.{Verifier}
use Rattle.verifier.specs.State.{known, VerifierState}
use Rattle.agreement_laws.specs.Letters.{Letters, Sent}
use Rattle.agreement_laws.proofs.Letters.{Sent-left, Covers, LettersOk}
use Rattle.agreement_laws.proofs.Stand.{Stand, Chosen-more, StandsAt-more, Grounds-more}
use Rattle.agreement_laws.proofs.Says.{Says, old_or_said, Safe-more, Backed-more}

module _ {u : ℕ} {ls : Letters} (new : Letters) {v : ℕ} {s : VerifierState} (says : Says v (Promise s.view (known s) s.accepted) new) (ok : LettersOk u ls) (st : Stand u ls v s) where
  old : (x : ℕ) (y : Ballot) → ((y ≡ Promise s.view (known s) s.accepted) → ⊥) → Sent (ls ++ new) (Verifier x) y → Sent ls (Verifier x) y
  old x y apart h = ⊎_elim (λ l. l) (λ e. absurd (apart e.1)) (old_or_said ls says h)

  pub LettersOk-promise : LettersOk u (ls ++ new)
  LettersOk-promise = record {
    leader = λ x w p d h. ok.leader x w p d (old x (Accept w p d) (λ e. cc) h);
    one = λ x w p d b h k. ok.one x w p d b (old x (Accept w p d) (λ e. cc) h) (old x (Accept w p b) (λ e. cc) k);
    accepted = λ x w p d h. let a = ok.accepted x w p d (old x (Accepted w p d) (λ e. cc) h) in (a.0, Sent-left ls new a.1);
    promised = λ x w k y d h. ⊎_elim
        (λ l. let a = ok.promised x w k y d l in (a.0, (a.1.0, Sent-left ls new a.1.1)))
        (λ (e : (x ≡ v) × (Promise w k (Some (y, d)) ≡ Promise s.view (known s) s.accepted)).
        let same = e.1 in
        let view : w ≡ s.view = cc in
        let known : k ≡ (known s) = cc in
        let accepted : s.accepted ≡ Some (y, d) = cc in
        let a = st.grounds.accepted_sent y d accepted in
        (omega (arith, a.0), (a.1.0, Sent-left ls new (subst (λ z. Sent ls (Verifier a.1.0) (Accept y (z + 1) d)) (sym known) a.1.1))))
        (old_or_said ls says h);
    covers = λ x w k a y p d h g less. ⊎_elim
        (λ l. ok.covers x w k a y p d l (old x (Accepted y p d) (λ e. cc) g) less)
        (λ (e : (x ≡ v) × (Promise w k a ≡ Promise s.view (known s) s.accepted)).
        let same = e.1 in
        let known : (known s) ≡ k = cc in
        let accepted : s.accepted ≡ a = cc in
        let mine : Sent ls (Verifier v) (Accepted y p d) = subst (λ z. Sent ls (Verifier z) (Accepted y p d)) e.0 (old x (Accepted y p d) (λ e. cc) g) in
        subst (λ (z : ℕ × Option (ℕ × Decree)). Covers z.0 z.1 y p) (λ i. (known i, accepted i)) (st.owns.kept y p d mine).1)
        (old_or_said ls says h);
    safe = λ x w p d h. Safe-more new (ok.safe x w p d (old x (Accept w p d) (λ e. cc) h));
    backed = λ x w p d h. Backed-more new (ok.backed x w p d (old x (Accept w p d) (λ e. cc) h));
    decided = λ x p d h. Chosen-more new (ok.decided x p d (old x (Decided p d) (λ e. cc) h));
    stood = λ x p z h. StandsAt-more new (ok.stood x p z (old x (Stands p z) (λ e. cc) h));
  }

  pub Stand-promise : Stand u (ls ++ new) v s
  Stand-promise = record {
    grounds = Grounds-more new st.grounds;
    owns = record {
      kept = λ w p d h. st.owns.kept w p d (old v (Accepted w p d) (λ e. cc) h);
      promised = λ w k a h. ⊎_elim
          (λ l. st.owns.promised w k a l)
          (λ (e : (v ≡ v) × (Promise w k a ≡ Promise s.view (known s) s.accepted)). let same = e.1 in let view : w ≡ s.view = cc in omega arith)
          (old_or_said ls says h);
      proposed = λ w p d h. st.owns.proposed w p d (old v (Accept w p d) (λ e. cc) h);
    };
  }
