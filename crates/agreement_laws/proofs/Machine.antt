-- Every event keeps what holds, and so does every list of them.
use Rattle.std.proofs.Common.{◌≡◌, ◌≢◌, ℕ, zero, suc, ◌⊎◌, List, [], ◌∷◌, ◌++◌, length, Option, Some, None, slice_get, slice_set, replicate, inl, inr, refl, sym, ◌∙◌, ap, subst, ⊎_elim, arith}
use Rattle.std.specs.Prelude.{◌==◌}
use Rattle.std.proofs.Math.ListN.{length-set}
use Rattle.std.proofs.lemmas.Bool.{cond_both, eqb-true}
use Rattle.std.proofs.lemmas.List.{length-replicate}
use Rattle.decrees.specs.declared.ballot.Ballot.{Ballot}
use Rattle.decrees.specs.declared.node.Letter.{Letter}
use Rattle.decrees.specs.declared.node.Node.{Node}
use Rattle.decrees.specs.declared.node.Node.TheVariants.{Client, Executor, Verifier}
use Rattle.decrees.specs.Count.{member_count}
use Rattle.view_change.specs.Promises.{has_promised}
use Rattle.verifier.specs.declared.input.Input.{Input}
use Rattle.verifier.specs.declared.input.Input.TheVariants as input
use Rattle.verifier.specs.State.{VerifierState, OutcomeView, first_promises, new_state, down}
use Rattle.verifier.specs.Lines.{restarted}
use Rattle.verifier.specs.Step.{step}
use Rattle.agreement_laws.specs.Letters.{Letters, Sent, here, there}
use Rattle.agreement_laws.specs.Machine.{VerifierSlot, New, Up, Stopped, Machine, Luck, Done, StopsBefore, StopsAfter, Event, Deliver, Suspect, Trim, Crash, Restart, Send, with_slot, saved_after, settled, given, reached_node, delivered, crashed, opened_new, opened, sent_by, happens, run, first_machine, reached}
use Rattle.agreement_laws.proofs.Places.{at_within}
use Rattle.agreement_laws.proofs.Each.{Each, Each-push}
use Rattle.agreement_laws.proofs.Letters.{LettersOk}
use Rattle.agreement_laws.proofs.Stand.{Heard, Stand, OnlyFrom, Stand-of_other, Stand-down}
use Rattle.agreement_laws.proofs.Says.{PlainOf, LettersOk-plain, Stand-plain}
use Rattle.agreement_laws.proofs.Steps.{StepOk, restarted_ok}
use Rattle.agreement_laws.proofs.Unsaved.{KeepsRecord, step_keeps_record, restarted_keeps_record}
use Rattle.agreement_laws.proofs.Received.{MayCome, step_ok}

-- what holds of a verifier: its state stands by its letters, or the first one, and its record is of its state
abbrev pub SlotOk : ℕ → Letters → ℕ → VerifierSlot → Type 0
SlotOk u ls v New = Stand u ls v (new_state u v)
SlotOk u ls v (Up s saved) = Stand u ls v s × (saved ≡ down s)
SlotOk u ls v (Stopped saved) = Stand u ls v saved × (saved ≡ down saved)

-- what holds of every reached machine
pub record Good (u : ℕ) (m : Machine) : Type 0 where
  pub count : length m.verifiers ≡ member_count u
  pub letters : LettersOk u m.letters
  pub stands : (v : ℕ) (slot : VerifierSlot) → slice_get m.verifiers v ≡ Some slot → SlotOk u m.letters v slot

SlotOk-of_other : (u : ℕ) (ls new : Letters) (v x : ℕ) (slot : VerifierSlot) → OnlyFrom v new → x ≢ v → SlotOk u ls x slot → SlotOk u (ls ++ new) x slot
SlotOk-of_other u ls new v x New only apart st = Stand-of_other new v x only apart st
SlotOk-of_other u ls new v x (Up s saved) only apart st = (Stand-of_other new v x only apart st.0, st.1)
SlotOk-of_other u ls new v x (Stopped saved) only apart st = (Stand-of_other new v x only apart st.0, st.1)

SlotOk-plain : (u : ℕ) (ls new : Letters) (v x : ℕ) (slot : VerifierSlot) → PlainOf u ls v new → SlotOk u ls x slot → SlotOk u (ls ++ new) x slot
SlotOk-plain u ls new v x New plain st = Stand-plain new plain st
SlotOk-plain u ls new v x (Up s saved) plain st = (Stand-plain new plain st.0, st.1)
SlotOk-plain u ls new v x (Stopped saved) plain st = (Stand-plain new plain st.0, st.1)

-- a verifier that stops with the record of a state
SlotOk-stopped : (u : ℕ) (ls : Letters) (v : ℕ) (saved s : VerifierState) → saved ≡ down s → Stand u ls v (down s) → SlotOk u ls v (Stopped saved)
SlotOk-stopped u ls v saved s is st = (subst (Stand u ls v) (sym is) st, is ∙ ap down (sym is))

pub get_set : (xs : List VerifierSlot) (v : ℕ) (n : VerifierSlot) (i : ℕ) (s : VerifierSlot) → slice_get (slice_set xs v n) i ≡ Some s → ((i ≡ v) × (s ≡ n)) ⊎ ((i ≢ v) × (slice_get xs i ≡ Some s))
get_set [] v n i s e = absurd (cc)
get_set (x ∷ xs) zero n zero s e = inl (refl, cc)
get_set (x ∷ xs) zero n (suc i) s e = inr ((λ h. omega arith), e)
get_set (x ∷ xs) (suc v) n zero s e = inr ((λ h. omega arith), e)
get_set (x ∷ xs) (suc v) n (suc i) s e = ⊎_elim (λ p. inl (ap suc p.0, p.1)) (λ p. inr ((λ h. p.0 (omega (arith, h))), p.1)) (get_set xs v n i s e)

-- one verifier is changed, with more letters of its own
changed : {u : ℕ} {m : Machine} (v : ℕ) (n : VerifierSlot) (new : Letters) → Good u m → OnlyFrom v new → LettersOk u (m.letters ++ new) → SlotOk u (m.letters ++ new) v n → Good u (record { verifiers = slice_set m.verifiers v n; letters = m.letters ++ new })
changed {u} {m} v n new good only ok st = record {
  count = length-set m.verifiers v n ∙ good.count;
  letters = ok;
  stands = λ i s e. ⊎_elim
      (λ (p : (i ≡ v) × (s ≡ n)). subst (λ (y : ℕ × VerifierSlot). SlotOk u (m.letters ++ new) y.0 y.1) (λ j. (sym p.0 j, sym p.1 j)) st)
      (λ (p : (i ≢ v) × (slice_get m.verifiers i ≡ Some s)). SlotOk-of_other u m.letters new v i s only p.0 (good.stands i s p.1))
      (get_set m.verifiers v n i s e);
}

-- one verifier is changed, with no letter
placed_ok : {u : ℕ} {m : Machine} (v : ℕ) (n : VerifierSlot) → Good u m → SlotOk u m.letters v n → Good u (with_slot m v n)
placed_ok {u} {m} v n good st = record {
  count = length-set m.verifiers v n ∙ good.count;
  letters = good.letters;
  stands = λ i s e. ⊎_elim
      (λ (p : (i ≡ v) × (s ≡ n)). subst (λ (y : ℕ × VerifierSlot). SlotOk u m.letters y.0 y.1) (λ j. (sym p.0 j, sym p.1 j)) st)
      (λ (p : (i ≢ v) × (slice_get m.verifiers i ≡ Some s)). good.stands i s p.1)
      (get_set m.verifiers v n i s e);
}

-- the record after a step is of the state after it
saved_after-is : (s saved : VerifierState) (o : OutcomeView) → saved ≡ down s → KeepsRecord s o → saved_after saved o ≡ down o.state
saved_after-is s saved o is keeps = cond_both o.saves (down o.state) saved (λ z. z ≡ down o.state) (λ _. refl) (λ unsaved. is ∙ sym (keeps unsaved))

settled_ok : {u : ℕ} {m : Machine} (v : ℕ) (s saved : VerifierState) (o : OutcomeView) (luck : Luck) → Good u m → Stand u m.letters v s → saved ≡ down s → KeepsRecord s o → StepOk u m.letters v o → Good u (settled m v saved o luck)
settled_ok v s saved o Done good st is keeps ok = changed v (Up o.state (saved_after saved o)) o.letters good ok.only ok.letters (ok.stand, saved_after-is s saved o is keeps)
settled_ok {u} {m} v s saved o StopsBefore good st is keeps ok = placed_ok v (Stopped saved) good (SlotOk-stopped u m.letters v saved s is (Stand-down st))
settled_ok {u} {m} v s saved o StopsAfter good st is keeps ok = placed_ok v (Stopped (saved_after saved o)) good (SlotOk-stopped u m.letters v (saved_after saved o) o.state (saved_after-is s saved o is keeps) ok.saved)

given_ok : {u : ℕ} {m : Machine} (v : ℕ) (x : Input) (luck : Luck) (o : Option VerifierSlot) → Good u m → MayCome m.letters x → slice_get m.verifiers v ≡ o → Good u (given u m v x luck o)
given_ok v x luck None good may e = good
given_ok v x luck (Some New) good may e = good
given_ok v x luck (Some (Stopped saved)) good may e = good
given_ok {u} {m} v x luck (Some (Up s saved)) good may e =
    let st = good.stands v (Up s saved) e in
    settled_ok v s saved (step u v s x) luck good st.0 st.1 (step_keeps_record u v s x) (step_ok x good.letters st.0 may)

pub was_sent : (ls : Letters) (k : ℕ) (l : Letter Ballot) → slice_get ls k ≡ Some l → Sent ls l.from l.body
was_sent [] k l e = absurd (cc)
was_sent (x ∷ xs) zero l e = let same : x ≡ l = cc in here (ap (λ (y : Letter Ballot). y.from) same) (ap (λ (y : Letter Ballot). y.body) same)
was_sent (x ∷ xs) (suc k) l e = there (was_sent xs k l e)

reached_node_ok : {u : ℕ} {m : Machine} (l : Letter Ballot) (luck : Luck) (to : Node) → Good u m → Sent m.letters l.from l.body → Good u (reached_node u m l luck to)
reached_node_ok l luck (Client c) good sent = good
reached_node_ok l luck (Executor e) good sent = good
reached_node_ok {u} {m} l luck (Verifier v) good sent = given_ok v (input.Letter l) luck (slice_get m.verifiers v) good sent refl

delivered_ok : {u : ℕ} {m : Machine} (k : ℕ) (luck : Luck) (o : Option (Letter Ballot)) → Good u m → slice_get m.letters k ≡ o → Good u (delivered u m luck o)
delivered_ok k luck None good e = good
delivered_ok {u} {m} k luck (Some l) good e = reached_node_ok l luck l.to good (was_sent m.letters k l e)

crashed_ok : {u : ℕ} {m : Machine} (v : ℕ) (o : Option VerifierSlot) → Good u m → slice_get m.verifiers v ≡ o → Good u (crashed m v o)
crashed_ok v None good e = good
crashed_ok v (Some New) good e = good
crashed_ok v (Some (Stopped saved)) good e = good
crashed_ok {u} {m} v (Some (Up s saved)) good e =
    let st = good.stands v (Up s saved) e in
    placed_ok v (Stopped saved) good (SlotOk-stopped u m.letters v saved s st.1 (Stand-down st.0))

opened_new_ok : {u : ℕ} {m : Machine} (v : ℕ) (luck : Luck) → Good u m → Stand u m.letters v (new_state u v) → Good u (opened_new u m v luck)
opened_new_ok {u} v Done good st = placed_ok v (Up (new_state u v) (down (new_state u v))) good (st, refl)
opened_new_ok v StopsBefore good st = good
opened_new_ok {u} {m} v StopsAfter good st = placed_ok v (Stopped (down (new_state u v))) good (SlotOk-stopped u m.letters v (down (new_state u v)) (new_state u v) refl (Stand-down st))

opened_ok : {u : ℕ} {m : Machine} (v : ℕ) (luck : Luck) (o : Option VerifierSlot) → Good u m → slice_get m.verifiers v ≡ o → Good u (opened u m v luck o)
opened_ok v luck None good e = good
opened_ok v luck (Some New) good e = opened_new_ok v luck good (good.stands v New e)
opened_ok {u} v luck (Some (Stopped saved)) good e =
    let st = good.stands v (Stopped saved) e in
    settled_ok v saved saved (restarted u v saved) luck good st.0 st.1 (restarted_keeps_record u v saved) (restarted_ok good.letters st.0)
opened_ok v luck (Some (Up s saved)) good e = good

-- a letter of a node that is no verifier changes nothing of what holds
outside_ok : {u : ℕ} {m : Machine} (l : Letter Ballot) → ((x : ℕ) → l.from ≡ Verifier x → ⊥) → Good u m → Good u (record m { letters = m.letters ++ l ∷ [] })
outside_ok {u} {m} l apart good = record {
  count = good.count;
  letters = LettersOk-plain (l ∷ []) {v = 0} none good.letters;
  stands = λ v slot e. SlotOk-plain u m.letters (l ∷ []) 0 v slot none (good.stands v slot e);
}
  where
    none : PlainOf u m.letters 0 (l ∷ [])
    none x y (here e f) = absurd (apart x e)
    none x y (there h) = elim h [ ]

sent_by_ok : {u : ℕ} {m : Machine} (l : Letter Ballot) (from : Node) → l.from ≡ from → Good u m → Good u (sent_by m l from)
sent_by_ok l (Client c) e good = outside_ok l (λ x h. let same : Client c ≡ Verifier x = sym e ∙ h in cc) good
sent_by_ok l (Executor n) e good = outside_ok l (λ x h. let same : Executor n ≡ Verifier x = sym e ∙ h in cc) good
sent_by_ok l (Verifier v) e good = good

pub happens_ok : {u : ℕ} {m : Machine} (e : Event) → Good u m → Good u (happens u m e)
happens_ok {u} {m} (Deliver k luck) good = delivered_ok k luck (slice_get m.letters k) good refl
happens_ok {u} {m} (Suspect v luck) good = given_ok v input.Suspect luck (slice_get m.verifiers v) good tt refl
happens_ok {u} {m} (Trim v place luck) good = given_ok v (input.Trim place) luck (slice_get m.verifiers v) good tt refl
happens_ok {u} {m} (Crash v) good = crashed_ok v (slice_get m.verifiers v) good refl
happens_ok {u} {m} (Restart v luck) good = opened_ok v luck (slice_get m.verifiers v) good refl
happens_ok {u} {m} (Send l) good = sent_by_ok l l.from refl good

pub run_ok : {u : ℕ} (es : List Event) {m : Machine} → Good u m → Good u (run u es m)
run_ok [] good = good
run_ok {u} (e ∷ es) {m} good = run_ok es (happens_ok e good)

first_heard : (ls : Letters) (n : ℕ) → Each (Heard ls 0) (first_promises n)
first_heard ls zero = tt
first_heard ls (suc n) = cond_both (has_promised (first_promises n) n) (first_promises n) (first_promises n ++ record { from = n; known = 0; accepted = None } ∷ []) (Each (Heard ls 0))
    (λ _. first_heard ls n)
    (λ _. Each-push (Heard ls 0) (first_promises n) (record { from = n; known = 0; accepted = None }) (first_heard ls n) (inl (refl, refl)))

-- a new verifier, before any letter
first_stand : (u v : ℕ) → Stand u [] v (new_state u v)
first_stand u v = record {
  grounds = record {
    log = record { before = []; placed = refl; stood = refl; all = λ p d e. let within = at_within [] p d e in absurd (omega (arith, within.0, within.1)) };
    accepted_sent = λ w d e. absurd (cc);
    leads = λ e. let same = eqb-true v 0 e in omega (arith, same);
    heard = λ e. cond_both (v == 0) (first_promises (member_count u)) [] (Each (Heard [] 0)) (λ _. first_heard [] (member_count u)) (λ _. tt);
    tallied = tt;
    voted = tt;
  };
  owns = record {
    kept = λ w p d h. elim h [ ];
    promised = λ w k a h. elim h [ ];
    proposed = λ w p d h. elim h [ ];
  };
}

all_new : (n v : ℕ) (s : VerifierSlot) → slice_get (replicate n New) v ≡ Some s → s ≡ New
all_new zero v s e = absurd (cc)
all_new (suc n) zero s e = cc
all_new (suc n) (suc v) s e = all_new n v s e

first_good : (u : ℕ) → Good u (first_machine u)
first_good u = record {
  count = length-replicate (member_count u) New;
  letters = record {
    leader = λ v w p d h. elim h [ ];
    one = λ v w p d b h. elim h [ ];
    accepted = λ v w p d h. elim h [ ];
    promised = λ v w k x d h. elim h [ ];
    covers = λ v w k a x p d h. elim h [ ];
    safe = λ v w p d h. elim h [ ];
    backed = λ v w p d h. elim h [ ];
    decided = λ v p d h. elim h [ ];
    stood = λ v p s h. elim h [ ];
  };
  stands = λ v s e. subst (SlotOk u [] v) (sym (all_new (member_count u) v s e)) (first_stand u v);
}

-- what holds of every machine that is reached
pub reached_ok : (u : ℕ) (events : List Event) → Good u (reached u events)
reached_ok u events = run_ok events (first_good u)
