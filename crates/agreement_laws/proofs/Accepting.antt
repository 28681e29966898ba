-- A verifier says, in its view, that it has accepted what it has accepted.
use Rattle.std.proofs.Common.{◌≡◌, ℕ, ◌++◌, Some, inr, sym, subst, ⊎_elim, arith}
use Rattle.decrees.specs.declared.decree.Decree.{Decree}
use Rattle.decrees.specs.declared.ballot.Ballot.{Ballot}
use Rattle.decrees.specs.declared.ballot.Ballot.TheVariants.{Accept, Accepted, Decided, Promise, Stands}
use Rattle.decrees.specs.declared.node.Node.TheVariants.{Verifier}
use Rattle.verifier.specs.State.{VerifierState, next_place}
use Rattle.agreement_laws.specs.Letters.{Letters, Sent}
use Rattle.agreement_laws.proofs.Letters.{Sent-left, AtLeast, LettersOk}
use Rattle.agreement_laws.proofs.Stand.{Stand, Chosen-more, StandsAt-more, Grounds-more}
use Rattle.agreement_laws.proofs.Says.{Says, old_or_said, Safe-more, Backed-more}

module _ {u : ℕ} {ls : Letters} (new : Letters) {v : ℕ} {s : VerifierState} (d : Decree) (has : s.accepted ≡ Some (s.view, d)) (says : Says v (Accepted s.view (next_place s) d) new) (ok : LettersOk u ls) (st : Stand u ls v s) where
  old : (x : ℕ) (y : Ballot) → ((y ≡ Accepted s.view (next_place s) d) → ⊥) → Sent (ls ++ new) (Verifier x) y → Sent ls (Verifier x) y
  old x y apart h = ⊎_elim (λ l. l) (λ e. absurd (apart e.1)) (old_or_said ls says h)

  pub LettersOk-accepted : LettersOk u (ls ++ new)
  LettersOk-accepted = record {
    leader = λ x w p b h. ok.leader x w p b (old x (Accept w p b) (λ e. cc) h);
    one = λ x w p b f h k. ok.one x w p b f (old x (Accept w p b) (λ e. cc) h) (old x (Accept w p f) (λ e. cc) k);
    accepted = λ x w p b h. ⊎_elim
        (λ l. let a = ok.accepted x w p b l in (a.0, Sent-left ls new a.1))
        (λ (e : (x ≡ v) × (Accepted w p b ≡ Accepted s.view (next_place s) d)).
        let same = e.1 in
        let view : s.view ≡ w = cc in
        let place : next_place s ≡ p = cc in
        let decree : d ≡ b = cc in
        let a = (st.grounds.accepted_sent s.view d has).1 in
        (a.0, Sent-left ls new (subst (λ (z : ℕ × ℕ × Decree). Sent ls (Verifier a.0) (Accept z.0 z.1 z.2)) (λ i. (view i, place i, decree i)) a.1)))
        (old_or_said ls says h);
    promised = λ x w k y b h. let a = ok.promised x w k y b (old x (Promise w k (Some (y, b))) (λ e. cc) h) in (a.0, (a.1.0, Sent-left ls new a.1.1));
    covers = λ x w k a y p b h g less. ⊎_elim
        (λ l. ok.covers x w k a y p b (old x (Promise w k a) (λ e. cc) h) l less)
        (λ (e : (x ≡ v) × (Accepted y p b ≡ Accepted s.view (next_place s) d)).
        let same = e.1 in
        let view : y ≡ s.view = cc in
        let mine : Sent ls (Verifier v) (Promise w k a) = subst (λ z. Sent ls (Verifier z) (Promise w k a)) e.0 (old x (Promise w k a) (λ e. cc) h) in
        let below = st.owns.promised w k a mine in
        absurd (omega (arith, below)))
        (old_or_said ls says g);
    safe = λ x w p b h. Safe-more new (ok.safe x w p b (old x (Accept w p b) (λ e. cc) h));
    backed = λ x w p b h. Backed-more new (ok.backed x w p b (old x (Accept w p b) (λ e. cc) h));
    decided = λ x p b h. Chosen-more new (ok.decided x p b (old x (Decided p b) (λ e. cc) h));
    stood = λ x p z h. StandsAt-more new (ok.stood x p z (old x (Stands p z) (λ e. cc) h));
  }

  pub Stand-accepted : Stand u (ls ++ new) v s
  Stand-accepted = record {
    grounds = Grounds-more new st.grounds;
    owns = record {
      kept = λ w p b h. ⊎_elim
          (λ l. st.owns.kept w p b l)
          (λ (e : (v ≡ v) × (Accepted w p b ≡ Accepted s.view (next_place s) d)).
          let same = e.1 in
          let view : w ≡ s.view = cc in
          let place : p ≡ next_place s = cc in
          (omega arith, inr (place, subst (AtLeast w) (sym has) (omega arith))))
          (old_or_said ls says h);
      promised = λ w k a h. st.owns.promised w k a (old v (Promise w k a) (λ e. cc) h);
      proposed = λ w p b h. st.owns.proposed w p b (old v (Accept w p b) (λ e. cc) h);
    };
  }
