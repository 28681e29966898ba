-- The laws of reached worlds, from those of reached machines.
use Rattle.std.proofs.Common.{◌≡◌, ◌⊎◌, ℕ, ◌<◌, Bool, true, false, List, [], ◌∷◌, ◌++◌, Some, refl, sym, ap, ◌∙◌, subst, slice_get, option_and_then, arith}
use Rattle.std.specs.Prelude.{not, IsTrue, ◌↔◌}
use Rattle.decrees.specs.declared.decree.Decree.{Decree}
use Rattle.decrees.specs.declared.ballot.Ballot.{Ballot}
use Rattle.decrees.specs.declared.node.Letter.{Letter}
use Rattle.decrees.specs.Count.{member_count}
use Rattle.decrees.specs.Standing.{decree_at}
use Rattle.verifier.specs.State.{VerifierState}
use Rattle.verifier.specs.Record.{record_text}
use Rattle.verifier.specs.Verifier.{VerifierView}
use Rattle.agreement_laws.specs.Letters.{Chosen, Backed}
use Rattle.agreement_laws.specs.Machine as machine
use Rattle.agreement_laws.specs.Machine.{reached, letters_of}
use Rattle.agreement_laws.specs.ChosenList.{chosen}
use Rattle.agreement_laws.specs.Laws.{recorded, record_of, Holds, StartsAbove}
use Rattle.agreement_laws.proofs.Proved.{at_most_one, all_backed, all_kept, list_is_chosen, list_grows}
use Rattle.agreement_laws.proofs.Untrimmed.{all_held}
use Rattle.events.specs.declared.event.Event.{Event}
use Rattle.slots.specs.Slot.{Slot}
use Rattle.slots.specs.declared.slot.Slot.TheVariants.{Up, Down, Gone}
use Rattle.events.specs.Config.{ConfigView}
use Rattle.worlds.specs.World.{WorldView, ReachedWorlds, EndsWith, IsReached}
use Rattle.world_laws.specs.Machines.{IsSameVerifier, IsOfMachine, HaveMachines}
use Rattle.world_laws.specs.Laws.{OneIsChosenInWorlds, ChosenIsBackedInWorlds, verifier_record, ChosenStandsInWorlds, ChosenIsKeptInWorlds, chosen_list, ListIsChosenInWorlds, ListsGrow, ListGrowsInWorlds}
use Rattle.slots.specs.Status.{is_gone}
use Rattle.worlds.proofs.SlotLemmas.{get_within}
use Rattle.world_laws.proofs.Projected.{are_of_machines, last_has_machine}
use Rattle.world_laws.proofs.Untrimmed.{whole_machine}

-- the world is of a reached machine
abbrev HasMachine : WorldView → Type 0
HasMachine w = (events : List machine.Event) × IsOfMachine w.u w (reached w.u events)

has_machine : (c : ConfigView) (worlds : List WorldView) (w : WorldView) (events : List Event) → ReachedWorlds c events worlds → EndsWith worlds w → HasMachine w
has_machine c [] w events r ends = absurd r
has_machine c (first ∷ later) w events r ends =
    let all = are_of_machines c events (first ∷ later) r in
    let last = last_has_machine all.0 first later all.1 all.2 in
    let here : IsOfMachine c.u w (reached c.u last.0) = subst (λ (y : WorldView). IsOfMachine c.u y (reached c.u last.0)) ends last.1 in
    (last.0, subst (λ (u : ℕ). IsOfMachine u w (reached u last.0)) (sym here.same_u) here)

machine_of : (c : ConfigView) (events : List Event) (w : WorldView) → IsReached c events w → HasMachine w
machine_of c events w r = has_machine c r.worlds w events r.reached r.ends

pub one_is_chosen : OneIsChosenInWorlds
one_is_chosen c events w r place a b ca cb =
    let m = machine_of c events w r in
    at_most_one w.u m.0 place a b
    (subst (λ (ls : List (Letter Ballot)). Chosen w.u ls place a) m.1.letters ca)
    (subst (λ (ls : List (Letter Ballot)). Chosen w.u ls place b) m.1.letters cb)

pub chosen_is_backed : ChosenIsBackedInWorlds
chosen_is_backed c events w r place d chosen =
    let m = machine_of c events w r in
    subst (λ (ls : List (Letter Ballot)). Backed w.u ls place d) (sym m.1.letters) (all_backed w.u m.0 place d (subst (λ (ls : List (Letter Ballot)). Chosen w.u ls place d) m.1.letters chosen))

-- a record of the machine is that of the slot
same_record : (u id : ℕ) (saved : VerifierState) (mine : machine.VerifierSlot) (slot : Slot VerifierView) → IsSameVerifier u id mine slot → recorded mine ≡ Some saved → verifier_record slot ≡ Some (record_text u id saved)
same_record u id saved machine.New (Up v) same e = absurd same
same_record u id saved machine.New (Down kept) same e = absurd (cc e)
same_record u id saved machine.New (Gone kept) same e = absurd (cc e)
same_record u id saved (machine.Up s x) (Up v) same e = let is : x ≡ saved = cc in ap (λ (y : VerifierView). y.saved) same ∙ ap (λ (y : VerifierState). Some (record_text u id y)) is
same_record u id saved (machine.Up s x) (Down kept) same e = absurd same
same_record u id saved (machine.Up s x) (Gone kept) same e = absurd same
same_record u id saved (machine.Stopped x) (Up v) same e = absurd same
same_record u id saved (machine.Stopped x) (Down kept) same e = let is : x ≡ saved = cc in same ∙ ap (λ (y : VerifierState). Some (record_text u id y)) is
same_record u id saved (machine.Stopped x) (Gone kept) same e = let is : x ≡ saved = cc in same ∙ ap (λ (y : VerifierState). Some (record_text u id y)) is

is_false : (b : Bool) → IsTrue (not b) → b ≡ false
is_false true h = absurd (cc h)
is_false false h = refl

-- the slot of a verifier whose record the machine has
record SlotOf (w : WorldView) (id : ℕ) (saved : VerifierState) : Type 0 where
  slot : Slot VerifierView
  there : slice_get w.verifiers id ≡ Some slot
  record_is : verifier_record slot ≡ Some (record_text w.u id saved)

slot_of : (w : WorldView) (m : machine.Machine) (id : ℕ) (saved : VerifierState) → IsOfMachine w.u w m → id < member_count w.u → record_of m.verifiers id ≡ Some saved → SlotOf w id saved
slot_of w m id saved is within has =
    let at = get_within w.verifiers id (let count = is.count in omega (arith, within, count)) in
    let mine = is.verifiers id at.0 at.1 in
    let recorded_is : recorded mine.0 ≡ Some saved = sym (ap (option_and_then recorded) {x = slice_get m.verifiers id} {y = Some mine.0} mine.1) ∙ has in
    record { slot = at.0; there = at.1; record_is = same_record w.u id saved mine.0 at.0 mine.2 recorded_is }

pub chosen_stands : ChosenStandsInWorlds
chosen_stands c events w r few place d is_chosen =
    let m = machine_of c events w r in
    let kept = all_kept w.u m.0 (λ id. is_gone (slice_get w.verifiers id)) place d few (subst (λ (ls : List (Letter Ballot)). Chosen w.u ls place d) m.1.letters is_chosen) in
    let at = slot_of w (reached w.u m.0) kept.verifier kept.saved m.1 kept.is_member kept.has_record in
    record {
      verifier = kept.verifier;
      slot = at.slot;
      there = at.there;
      not_lost = ap is_gone (sym at.there) ∙ is_false (is_gone (slice_get w.verifiers kept.verifier)) kept.not_lost;
      saved = kept.saved;
      record_is = at.record_is;
      keeps = subst (λ (ls : List (Letter Ballot)). Holds kept.saved place d ⊎ StartsAbove (chosen w.u ls) kept.saved place) (sym m.1.letters) kept.keeps;
    }

pub chosen_is_kept : ChosenIsKeptInWorlds
chosen_is_kept c events w none r few place d is_chosen =
    let m = whole_machine c events w none r in
    let kept = all_held w.u m.0 (λ id. is_gone (slice_get w.verifiers id)) place d m.1 few (subst (λ (ls : List (Letter Ballot)). Chosen w.u ls place d) m.2.letters is_chosen) in
    let at = slot_of w (reached w.u m.0) kept.verifier kept.saved m.2 kept.is_member kept.has_record in
    record {
      verifier = kept.verifier;
      slot = at.slot;
      there = at.there;
      not_lost = ap is_gone (sym at.there) ∙ is_false (is_gone (slice_get w.verifiers kept.verifier)) kept.not_lost;
      saved = kept.saved;
      record_is = at.record_is;
      holds = kept.holds;
    }

pub list_is_what_is_chosen : ListIsChosenInWorlds
list_is_what_is_chosen c events w place d r =
    let m = machine_of c events w r in
    subst (λ (ls : List (Letter Ballot)). (decree_at (chosen w.u ls) place ≡ Some d) ↔ Chosen w.u ls place d) (sym m.1.letters) (list_is_chosen w.u m.0 place d)

lists_grow : (u : ℕ) (before : List machine.Event) (w : WorldView) (ws : List WorldView) → IsOfMachine u w (reached u before) → HaveMachines u before ws → ListsGrow w ws
lists_grow u before w [] is h = tt
lists_grow u before w (x ∷ ws) is h =
    let g = list_grows u before h.0 in
    let now : chosen_list x ≡ chosen u (letters_of u (before ++ h.0)) = λ i. chosen (h.1.same_u i) (h.1.letters i) in
    let old : chosen_list w ≡ chosen u (letters_of u before) = λ i. chosen (is.same_u i) (is.letters i) in
    ((g.0, now ∙ (g.1 ∙ ap (λ (ds : List Decree). ds ++ g.0) (sym old))), lists_grow u (before ++ h.0) x ws h.1 h.2)

pub list_only_grows : ListGrowsInWorlds
list_only_grows c events first later r =
    let all = are_of_machines c events (first ∷ later) r in
    lists_grow c.u all.0 first later all.1 all.2
