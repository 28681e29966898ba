-- In plays in which no verifier is told to forget, each record holds what it knows.
use Rattle.std.proofs.Common.{◌≡◌, ◌≢◌, ℕ, zero, suc, Bool, true, false, not, List, [], ◌∷◌, ◌++◌, Option, Some, None, slice_get, slice_set, replicate, refl, sym, ◌∙◌, ap, subst, ⊎_elim, arith, IsTrue, option_and_then}
use Rattle.std.specs.Prelude.{◌||◌}
use Rattle.std.specs.List.{list_any}
use Rattle.std.proofs.lemmas.Bool.{cond_both, false≢true}
use Rattle.decrees.specs.declared.ballot.Ballot.{Ballot}
use Rattle.decrees.specs.declared.ballot.Ballot.TheVariants.{Stands}
use Rattle.decrees.specs.declared.standing.Standing.{Standing}
use Rattle.decrees.specs.declared.node.Letter.{Letter}
use Rattle.decrees.specs.declared.node.Node.{Node}
use Rattle.decrees.specs.declared.node.Node.TheVariants.{Client, Executor, Verifier}
use Rattle.decrees.specs.Count.{member_count}
use Rattle.verifier.specs.declared.input.Input.{Input}
use Rattle.verifier.specs.declared.input.Input.TheVariants as input
use Rattle.verifier.specs.State.{VerifierState, OutcomeView, new_state, down}
use Rattle.verifier.specs.Lines.{restarted}
use Rattle.verifier.specs.Step.{step}
use Rattle.agreement_laws.specs.Letters.{Sent, here, there}
use Rattle.agreement_laws.specs.Machine.{VerifierSlot, New, Up, Stopped, Machine, Luck, Done, StopsBefore, StopsAfter, Event, Deliver, Suspect, Trim, Crash, Restart, Send, with_slot, saved_after, settled, given, reached_node, delivered, crashed, opened, sent_by, happens, run, first_machine, reached}
use Rattle.agreement_laws.specs.Laws.{trims, recorded, record_of, AllHeld}
use Rattle.agreement_laws.proofs.Letters.{Sent-split}
use Rattle.agreement_laws.proofs.Machine.{get_set, was_sent, reached_ok}
use Rattle.agreement_laws.proofs.Proved.{all_kept, chosen_above}
use Rattle.agreement_laws.proofs.Whole.{NoneTold, KeepsStart, letter_whole, suspected_whole, restarted_whole}

abbrev WholeSlot : VerifierSlot → Type 0
WholeSlot New = Unit {0}
WholeSlot (Up s saved) = (s.start.place ≡ 0) × (saved.start.place ≡ 0)
WholeSlot (Stopped saved) = saved.start.place ≡ 0

record AllWhole (m : Machine) : Type 0 where
  slots : (v : ℕ) (slot : VerifierSlot) → slice_get m.verifiers v ≡ Some slot → WholeSlot slot
  none : NoneTold m.letters

set_whole : {m : Machine} (v : ℕ) (n : VerifierSlot) → AllWhole m → WholeSlot n → (i : ℕ) (slot : VerifierSlot) → slice_get (slice_set m.verifiers v n) i ≡ Some slot → WholeSlot slot
set_whole {m} v n all mine i slot e = ⊎_elim
    (λ (p : (i ≡ v) × (slot ≡ n)). subst WholeSlot (sym p.1) mine)
    (λ (p : (i ≢ v) × (slice_get m.verifiers i ≡ Some slot)). all.slots i slot p.1)
    (get_set m.verifiers v n i slot e)

placed : {m : Machine} (v : ℕ) (n : VerifierSlot) → AllWhole m → WholeSlot n → AllWhole (with_slot m v n)
placed v n all mine = record { slots = set_whole v n all mine; none = all.none }

saved_whole : (s saved : VerifierState) (o : OutcomeView) → s.start.place ≡ 0 → saved.start.place ≡ 0 → KeepsStart s o → (saved_after saved o).start.place ≡ 0
saved_whole s saved o w z k = cond_both o.saves (down o.state) saved (λ (x : VerifierState). x.start.place ≡ 0) (λ _. ap (λ x. x.place) k.start ∙ w) (λ _. z)

settled_whole : {m : Machine} (v : ℕ) (s saved : VerifierState) (o : OutcomeView) (luck : Luck) → AllWhole m → s.start.place ≡ 0 → saved.start.place ≡ 0 → KeepsStart s o → AllWhole (settled m v saved o luck)
settled_whole {m} v s saved o Done all w z k = record {
  slots = set_whole v (Up o.state (saved_after saved o)) all (ap (λ x. x.place) k.start ∙ w, saved_whole s saved o w z k);
  none = λ x p st sent. ⊎_elim (all.none x p st) (k.none x p st) (Sent-split m.letters o.letters sent);
}
settled_whole v s saved o StopsBefore all w z k = placed v (Stopped saved) all z
settled_whole v s saved o StopsAfter all w z k = placed v (Stopped (saved_after saved o)) all (saved_whole s saved o w z k)

given_whole : (u : ℕ) {m : Machine} (v : ℕ) (x : Input) (luck : Luck) (o : Option VerifierSlot) → AllWhole m → slice_get m.verifiers v ≡ o → ((s : VerifierState) → s.start.place ≡ 0 → KeepsStart s (step u v s x)) → AllWhole (given u m v x luck o)
given_whole u v x luck None all e k = all
given_whole u v x luck (Some New) all e k = all
given_whole u v x luck (Some (Stopped saved)) all e k = all
given_whole u v x luck (Some (Up s saved)) all e k = let w = all.slots v (Up s saved) e in settled_whole v s saved (step u v s x) luck all w.0 w.1 (k s w.0)

node_whole : (u : ℕ) {m : Machine} (l : Letter Ballot) (luck : Luck) (to : Node) → AllWhole m → Sent m.letters l.from l.body → AllWhole (reached_node u m l luck to)
node_whole u l luck (Client c) all sent = all
node_whole u l luck (Executor e) all sent = all
node_whole u {m} l luck (Verifier v) all sent = given_whole u v (input.Letter l) luck (slice_get m.verifiers v) all refl
    (λ s w. letter_whole u v s w l.from l.body (λ x p st e f. all.none x p st (subst (λ (z : Node × Ballot). Sent m.letters z.0 z.1) (λ i. (e i, f i)) sent)))

delivered_whole : (u : ℕ) {m : Machine} (k : ℕ) (luck : Luck) (o : Option (Letter Ballot)) → AllWhole m → slice_get m.letters k ≡ o → AllWhole (delivered u m luck o)
delivered_whole u k luck None all e = all
delivered_whole u {m} k luck (Some l) all e = node_whole u l luck l.to all (was_sent m.letters k l e)

crashed_whole : {m : Machine} (v : ℕ) (o : Option VerifierSlot) → AllWhole m → slice_get m.verifiers v ≡ o → AllWhole (crashed m v o)
crashed_whole v None all e = all
crashed_whole v (Some New) all e = all
crashed_whole v (Some (Stopped saved)) all e = all
crashed_whole v (Some (Up s saved)) all e = placed v (Stopped saved) all (all.slots v (Up s saved) e).1

opened_whole : (u : ℕ) {m : Machine} (v : ℕ) (luck : Luck) (o : Option VerifierSlot) → AllWhole m → slice_get m.verifiers v ≡ o → AllWhole (opened u m v luck o)
opened_whole u v luck None all e = all
opened_whole u v Done (Some New) all e = placed v (Up (new_state u v) (down (new_state u v))) all (refl, refl)
opened_whole u v StopsBefore (Some New) all e = all
opened_whole u v StopsAfter (Some New) all e = placed v (Stopped (down (new_state u v))) all refl
opened_whole u v luck (Some (Stopped saved)) all e = let w = all.slots v (Stopped saved) e in settled_whole v saved saved (restarted u v saved) luck all w w (restarted_whole u v saved w)
opened_whole u v luck (Some (Up s saved)) all e = all

outside_whole : {m : Machine} (l : Letter Ballot) → ((x : ℕ) → l.from ≡ Verifier x → ⊥) → AllWhole m → AllWhole (record m { letters = m.letters ++ l ∷ [] })
outside_whole {m} l apart all = record { slots = all.slots; none = λ x p st sent. ⊎_elim (all.none x p st) (mine x p st) (Sent-split m.letters (l ∷ []) sent) }
  where
    mine : (x p : ℕ) (st : Standing) → Sent (l ∷ []) (Verifier x) (Stands p st) → ⊥
    mine x p st (here e f) = apart x e
    mine x p st (there h) = elim h [ ]

sent_whole : {m : Machine} (l : Letter Ballot) (from : Node) → l.from ≡ from → AllWhole m → AllWhole (sent_by m l from)
sent_whole l (Client c) e all = outside_whole l (λ x h. let same : Client c ≡ Verifier x = sym e ∙ h in cc) all
sent_whole l (Executor n) e all = outside_whole l (λ x h. let same : Executor n ≡ Verifier x = sym e ∙ h in cc) all
sent_whole l (Verifier v) e all = all

happens_whole : (u : ℕ) {m : Machine} (e : Event) → trims e ≡ false → AllWhole m → AllWhole (happens u m e)
happens_whole u {m} (Deliver k luck) calm all = delivered_whole u k luck (slice_get m.letters k) all refl
happens_whole u {m} (Suspect v luck) calm all = given_whole u v input.Suspect luck (slice_get m.verifiers v) all refl (λ s w. suspected_whole u v s w)
happens_whole u {m} (Trim v place luck) calm all = absurd (false≢true (sym calm))
happens_whole u {m} (Crash v) calm all = crashed_whole v (slice_get m.verifiers v) all refl
happens_whole u {m} (Restart v luck) calm all = opened_whole u v luck (slice_get m.verifiers v) all refl
happens_whole u {m} (Send l) calm all = sent_whole l l.from refl all

neither : (a b : Bool) → (a || b) ≡ false → (a ≡ false) × (b ≡ false)
neither false b e = (refl, e)
neither true b e = absurd (cc)

run_whole : (u : ℕ) (es : List Event) {m : Machine} → list_any trims es ≡ false → AllWhole m → AllWhole (run u es m)
run_whole u [] calm all = all
run_whole u (e ∷ es) calm all = let p = neither (trims e) (list_any trims es) calm in run_whole u es p.1 (happens_whole u e p.0 all)

first_whole : (u : ℕ) → AllWhole (first_machine u)
first_whole u = record { slots = λ v slot e. subst WholeSlot (news (member_count u) v slot e) tt; none = λ x p st sent. elim sent [ ] }
  where
    news : (n v : ℕ) (slot : VerifierSlot) → slice_get (replicate n New) v ≡ Some slot → New ≡ slot
    news zero v slot e = absurd (cc)
    news (suc n) zero slot e = cc
    news (suc n) (suc v) slot e = news n v slot e

is_none : (b : Bool) → IsTrue (not b) → b ≡ false
is_none false h = refl
is_none true h = absurd (cc h)

pub all_held : AllHeld
all_held u events lost p d calm few c =
    let k = all_kept u events lost p d few c in
    let all = run_whole u events (is_none (list_any trims events) calm) (first_whole u) in
    record {
      verifier = k.verifier;
      saved = k.saved;
      is_member = k.is_member;
      not_lost = k.not_lost;
      has_record = k.has_record;
      holds = ⊎_elim (λ h. h) (λ above. absurd (omega (arith, above.forgotten, whole all k.verifier k.saved k.has_record, chosen_above (reached_ok u events).letters p d c))) k.keeps;
    }
  where
    whole : AllWhole (reached u events) → (v : ℕ) (saved : VerifierState) → record_of (reached u events).verifiers v ≡ Some saved → saved.start.place ≡ 0
    whole all v saved has = by (slice_get (reached u events).verifiers v) refl has
      where
        by : (o : Option VerifierSlot) → slice_get (reached u events).verifiers v ≡ o → option_and_then recorded o ≡ Some saved → saved.start.place ≡ 0
        by None at e = absurd (cc)
        by (Some New) at e = absurd (cc)
        by (Some (Up s x)) at e = let same : x ≡ saved = cc in ap (λ (z : VerifierState). z.start.place) (sym same) ∙ (all.slots v (Up s x) at).1
        by (Some (Stopped x)) at e = let same : x ≡ saved = cc in ap (λ (z : VerifierState). z.start.place) (sym same) ∙ all.slots v (Stopped x) at
