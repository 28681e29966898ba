-- A leader that has not proposed in its view proposes what is safe and backed.
use Rattle.std.proofs.Common.{◌≡◌, ℕ, ◌%◌, ◌≤◌, ◌⊎◌, true, false, ◌++◌, Some, inl, inr, refl, sym, ◌∙◌, subst, ⊎_elim, arith}
use Rattle.decrees.specs.declared.decree.Decree.{Decree}
use Rattle.decrees.specs.declared.ballot.Ballot.{Ballot}
use Rattle.decrees.specs.declared.ballot.Ballot.TheVariants.{Accept, Accepted, Decided, Promise, Stands}
use Rattle.decrees.specs.declared.node.Node.TheVariants.{Verifier}
use Rattle.decrees.specs.Count.{member_count}
use Rattle.verifier.specs.State.{known, VerifierState, next_place}
use Rattle.agreement_laws.specs.Letters.{Letters, Sent, Backed}
use Rattle.agreement_laws.proofs.Letters.{Sent-left, Safe, LettersOk}
use Rattle.agreement_laws.proofs.Stand.{Stand, Chosen-more, StandsAt-more, Grounds-more}
use Rattle.agreement_laws.proofs.Says.{Says, old_or_said, Safe-more, Backed-more}

module _ {u : ℕ} {ls : Letters} (new : Letters) {v : ℕ} {s : VerifierState} (d : Decree) (leads : s.leads ≡ true) (fresh : s.proposed ≡ false) (safe : (s.view ≡ 0) ⊎ Safe u ls s.view (next_place s) d) (backed : Backed u ls (next_place s) d) (says : Says v (Accept s.view (next_place s) d) new) (ok : LettersOk u ls) (st : Stand u ls v s) where
  old : (x : ℕ) (y : Ballot) → ((y ≡ Accept s.view (next_place s) d) → ⊥) → Sent (ls ++ new) (Verifier x) y → Sent ls (Verifier x) y
  old x y apart h = ⊎_elim (λ l. l) (λ e. absurd (apart e.1)) (old_or_said ls says h)

  -- nothing was proposed for this place in this view before
  none_before : (w p : ℕ) (b : Decree) → w ≡ s.view → p ≡ next_place s → Sent ls (Verifier v) (Accept w p b) → ⊥
  none_before w p b at next h = ⊎_elim
      (λ (q : p ≤ (known s)). omega (arith, next))
      (λ (q : (p ≡ next_place s) × (s.proposed ≡ true)). let yes = q.1 in cc)
      ((st.owns.proposed w p b h).1 leads at)

  pub LettersOk-accept : LettersOk u (ls ++ new)
  LettersOk-accept = record {
    leader = λ x w p b h. ⊎_elim
        (λ l. ok.leader x w p b l)
        (λ (e : (x ≡ v) × (Accept w p b ≡ Accept s.view (next_place s) d)).
        let same = e.1 in
        let view : w ≡ s.view = cc in
        subst (λ z. z % member_count u ≡ x) (sym view) (st.grounds.leads leads ∙ sym e.0))
        (old_or_said ls says h);
    one = λ x w p b f h k. ⊎_elim
        (λ l. ⊎_elim
        (λ m. ok.one x w p b f l m)
        (λ (e : (x ≡ v) × (Accept w p f ≡ Accept s.view (next_place s) d)).
        let same = e.1 in
        absurd (none_before w p b (cc) (cc) (subst (λ z. Sent ls (Verifier z) (Accept w p b)) e.0 l)))
        (old_or_said ls says k))
        (λ (e : (x ≡ v) × (Accept w p b ≡ Accept s.view (next_place s) d)). ⊎_elim
        (λ m. let same = e.1 in absurd (none_before w p f (cc) (cc) (subst (λ z. Sent ls (Verifier z) (Accept w p f)) e.0 m)))
        (λ (g : (x ≡ v) × (Accept w p f ≡ Accept s.view (next_place s) d)). let one = e.1 in let two = g.1 in cc)
        (old_or_said ls says k))
        (old_or_said ls says h);
    accepted = λ x w p b h. let a = ok.accepted x w p b (old x (Accepted w p b) (λ e. cc) h) in (a.0, Sent-left ls new a.1);
    promised = λ x w k y b h. let a = ok.promised x w k y b (old x (Promise w k (Some (y, b))) (λ e. cc) h) in (a.0, (a.1.0, Sent-left ls new a.1.1));
    covers = λ x w k a y p b h g. ok.covers x w k a y p b (old x (Promise w k a) (λ e. cc) h) (old x (Accepted y p b) (λ e. cc) g);
    safe = λ x w p b h. ⊎_elim
        (λ l. Safe-more new (ok.safe x w p b l))
        (λ (e : (x ≡ v) × (Accept w p b ≡ Accept s.view (next_place s) d)).
        let same = e.1 in
        let view : s.view ≡ w = cc in
        let place : next_place s ≡ p = cc in
        let decree : d ≡ b = cc in
        subst (λ (z : ℕ × ℕ × Decree). (z.0 ≡ 0) ⊎ Safe u (ls ++ new) z.0 z.1 z.2) (λ i. (view i, place i, decree i)) (Safe-more new safe))
        (old_or_said ls says h);
    backed = λ x w p b h. ⊎_elim
        (λ l. Backed-more new (ok.backed x w p b l))
        (λ (e : (x ≡ v) × (Accept w p b ≡ Accept s.view (next_place s) d)).
        let same = e.1 in
        let place : next_place s ≡ p = cc in
        let decree : d ≡ b = cc in
        subst (λ (z : ℕ × Decree). Backed u (ls ++ new) z.0 z.1) (λ i. (place i, decree i)) (Backed-more new backed))
        (old_or_said ls says h);
    decided = λ x p b h. Chosen-more new (ok.decided x p b (old x (Decided p b) (λ e. cc) h));
    stood = λ x p z h. StandsAt-more new (ok.stood x p z (old x (Stands p z) (λ e. cc) h));
  }

  pub Stand-accept : Stand u (ls ++ new) v (record s { proposed = true; doubt = false })
  Stand-accept = record {
    grounds = let g = Grounds-more new st.grounds in record { log = g.log; accepted_sent = g.accepted_sent; leads = g.leads; heard = g.heard; tallied = g.tallied; voted = g.voted };
    owns = record {
      kept = λ w p b h. st.owns.kept w p b (old v (Accepted w p b) (λ e. cc) h);
      promised = λ w k a h. st.owns.promised w k a (old v (Promise w k a) (λ e. cc) h);
      proposed = λ w p b h. ⊎_elim
          (λ l. let m = st.owns.proposed w p b l in (m.0, λ e same. ⊎_elim inl (λ (q : (p ≡ next_place s) × (s.proposed ≡ true)). inr (q.0, refl)) (m.1 e same)))
          (λ (e : (v ≡ v) × (Accept w p b ≡ Accept s.view (next_place s) d)).
          let same = e.1 in
          let view : w ≡ s.view = cc in
          let place : p ≡ next_place s = cc in
          (omega arith, λ _ _. inr (place, refl)))
          (old_or_said ls says h);
    };
  }
