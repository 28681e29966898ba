-- What an executor keeps was asked: by its state while it is up, and else by whatever its record spells.
use Rattle.std.proofs.Common.{◌≡◌, ◌⊎◌, ℕ, List, Option, Some, None, inl, inr, refl, sym, ◌∙◌, ap, subst, ⊎_elim, slice_get}
use Rattle.std.specs.Prelude.{Contains}
use Rattle.std.proofs.lemmas.Bool.{cond_both}
use Rattle.keeper.specs.Kept.{Kept}
use Rattle.decrees.specs.declared.node.Letter.{Letter}
use Rattle.states.specs.State.{StateView}
use Rattle.exec_lines.specs.declared.body.Body.{Body}
use Rattle.exec_lines.specs.declared.input.Input.{Input}
use Rattle.exec_lines.specs.State.{new_executor}
use Rattle.exec_lines.specs.Record.{executor_text}
use Rattle.exec_node.specs.Executor.{ExecutorView, executor_outcome, executor_record_after, OpensExecutor}
use Rattle.run_laws.specs.Run.{Executed}
use Rattle.custody_laws.specs.Durable.{Durable, first_durable}
use Rattle.custody_laws.proofs.Custody.{reached_ok}
use Rattle.events.specs.declared.event.Event.{Event}
use Rattle.slots.specs.Slot.{Slot}
use Rattle.slots.specs.declared.slot.Slot.TheVariants.{Up, Down, Gone}
use Rattle.slots.specs.Slots.{executor_kept, executor_told, crashed_slot, lost_slot, told_slot, first_if_none, ExecutorSettles, ExecutorReopens}
use Rattle.worlds.specs.World.{WorldView}
use Rattle.one_server_laws.specs.Saved.{saved_of, up_again, AreLinked, IsSpelled, IsSavedIn}
use Rattle.one_server_laws.specs.Machines.{IsRecordOf}
use Rattle.one_server_laws.proofs.Inputs.{MayHear, MayCome}
use Rattle.one_server_laws.proofs.Records.{chain_is_linked, one_is_spelled, one_is_read}
use Rattle.one_server_laws.proofs.Plays.{Held}
use Rattle.one_server_laws.proofs.Events.{may_hear}
use Rattle.one_server_laws.proofs.Outcomes.{mine_is, outcome_is, outcome_linked}
use Rattle.one_server_laws.proofs.AskedLines.{AreAskedMembers, AreAskedLetters, IsAskedState, IsAskedOutcome, BringsAsked, resumed_heard, step_keeps_asked}

-- any state, and any round
abbrev pub AnyState : StateView → Type 0
AnyState s = Unit {0}

abbrev pub AnyRound : Executed → Type 0
AnyRound r = Unit {0}

-- whatever the record spells has a chain that was asked
abbrev pub IsAskedRecord : List Event → ℕ → ℕ → Option (List ℕ) → Type 0
IsAskedRecord events u id record_is = (x : Durable) → IsSpelled u id record_is x → AreAskedMembers events x.chain

abbrev pub IsAskedSlot : List Event → ℕ → ℕ → Slot ExecutorView → Type 0
IsAskedSlot events u id (Up e) = IsAskedState events e.state
IsAskedSlot events u id (Down kept) = IsAskedRecord events u id kept.saved
IsAskedSlot events u id (Gone kept) = IsAskedRecord events u id kept.saved

-- what is saved in it was asked
pub saved_is_asked : (events : List Event) (u id : ℕ) (slot : Slot ExecutorView) (x : Durable) → IsAskedSlot events u id slot → IsSavedIn u id slot x → AreAskedMembers events x.chain
saved_is_asked events u id (Up e) x is saved = subst (λ (y : Durable). AreAskedMembers events y.chain) saved is.members
saved_is_asked events u id (Down kept) x is saved = is x saved
saved_is_asked events u id (Gone kept) x is saved = is x saved

module _ {u : ℕ} {w : WorldView} (held : Held u AnyState AnyRound w) where
  -- ---- what the letters of the world tell

  pub may_be_heard : (k : ℕ) (l : Letter Body) → slice_get w.letters k ≡ Some l → MayHear held.now l.from l.body
  may_be_heard k l at = may_hear held.before held.is_reached held.same held.events held.verifiers_are k l l.from at refl

  -- ---- records

  linked_at : (id : ℕ) (d : Durable) → slice_get held.now.executors id ≡ Some d → AreLinked d.have d.chain
  linked_at id d at =
      let ok = (reached_ok u held.before held.now held.is_reached).execs id d at in
      chain_is_linked (Contains held.now.met) (Contains held.now.rounds) d.standing.epoch d.have d.chain ok.chain

  module _ (events : List Event) (id : ℕ) where
    -- the record of an executor that is up is that of its state
    up_record_asked : (e : ExecutorView) → slice_get w.executors id ≡ Some (Up e) → IsAskedState events e.state → IsAskedRecord events u id e.saved
    up_record_asked e placed is x spelled =
        let mine = held.same.executors id (Up e) placed in
        let saved : saved_of e.state ≡ mine.0 = mine.2.saved in
        let same : x ≡ mine.0 = one_is_spelled u id e.saved x mine.0 spelled (record { text = mine.2.recorded; linked = linked_at id mine.0 mine.1 }) in
        subst (λ (y : Durable). AreAskedMembers events y.chain) (saved ∙ sym same) is.members

    same_record_asked : (a b : Option (List ℕ)) → a ≡ b → IsAskedRecord events u id b → IsAskedRecord events u id a
    same_record_asked a b e is = subst (IsAskedRecord events u id) (sym e) is

    new_record_asked : (o : Option (List ℕ)) → o ≡ Some (executor_text u id new_executor) → IsAskedRecord events u id o
    new_record_asked o e x spelled = subst (λ (y : Durable). AreAskedMembers events y.chain) (sym (one_is_spelled u id o x first_durable spelled (record { text = e; linked = tt }))) tt

    -- ---- an input

    module _ (x : Input) (may : MayCome held.now x) (brings : BringsAsked events x) (e : ExecutorView) (placed : slice_get w.executors id ≡ Some (Up e)) (is : IsAskedState events e.state) where
      outcome_asked : IsAskedOutcome events (executor_outcome e x)
      outcome_asked = subst (IsAskedOutcome events) (sym (outcome_is held id e placed x may)) (step_keeps_asked events u id e.state is x brings)

      after_is_asked : IsAskedRecord events u id (executor_record_after e (executor_outcome e x))
      after_is_asked = cond_both (executor_outcome e x).saves (Some (executor_text e.u e.id (executor_outcome e x).state)) e.saved (IsAskedRecord events u id)
          (λ _. λ y spelled.
          let text : ◌≡◌ {A = Option (List ℕ)} (Some (executor_text e.u e.id (executor_outcome e x).state)) (Some (executor_text u id (up_again (saved_of (executor_outcome e x).state)))) =
          (λ i. Some (executor_text ((mine_is held id e placed).2.same_u i) ((mine_is held id e placed).2.same_id i) (executor_outcome e x).state)) in
          subst (λ (z : Durable). AreAskedMembers events z.chain) (sym (one_is_spelled u id (Some (executor_text e.u e.id (executor_outcome e x).state)) y (saved_of (executor_outcome e x).state) spelled (record { text = text; linked = outcome_linked held id e placed x may })))
          outcome_asked.state.members)
          (λ _. up_record_asked e placed is)

      up_settles : (now : Slot ExecutorView) (new : List (Letter Body)) → ExecutorSettles (Up e) x now new → IsAskedSlot events u id now × AreAskedLetters events new
      up_settles now new (inl h) = (subst (IsAskedSlot events u id) (sym h.1) outcome_asked.state, subst (AreAskedLetters events) (sym h.2) outcome_asked.letters)
      up_settles now new (inr h) = (
        subst (IsAskedSlot events u id) (sym h.1.1)
            (⊎_elim (λ same. same_record_asked h.1.0.saved e.saved same (up_record_asked e placed is)) (λ same. same_record_asked h.1.0.saved (executor_record_after e (executor_outcome e x)) same after_is_asked) h.1.3.record_is),
        subst (AreAskedLetters events) (sym h.1.2) tt,
      )

    pub settles_asked : (x : Input) → MayCome held.now x → BringsAsked events x → (old now : Slot ExecutorView) (new : List (Letter Body)) → slice_get w.executors id ≡ Some old → IsAskedSlot events u id old → ExecutorSettles old x now new
        → IsAskedSlot events u id now × AreAskedLetters events new
    settles_asked x may brings (Up e) now new placed is h = up_settles x may brings e placed is now new h
    settles_asked x may brings (Down kept) now new placed is h = (subst (IsAskedSlot events u id) (sym h.0) is, subst (AreAskedLetters events) (sym h.1) tt)
    settles_asked x may brings (Gone kept) now new placed is h = (subst (IsAskedSlot events u id) (sym h.0) is, subst (AreAskedLetters events) (sym h.1) tt)

    -- ---- a restart

    goes_on_asked : (kept : Kept) (e : ExecutorView) (new : List (Letter Body)) (d : Durable) (o : Option (List ℕ)) → IsAskedRecord events u id o → IsRecordOf u id o d → AreLinked d.have d.chain → OpensExecutor u id o kept.failures kept.fails_next e new
        → IsAskedState events e.state × AreAskedLetters events new
    goes_on_asked kept e new d None is same linked h = (
      subst (IsAskedState events) (sym (ap (λ (y : ExecutorView). y.state) h.0)) (record { waiting = tt; working = tt; members = tt }),
      subst (AreAskedLetters events) (sym h.1) tt,
    )
    goes_on_asked kept e new d (Some bytes) is same linked h =
        let spelled : IsSpelled u id (Some bytes) d = record { text = ap (λ (b : List ℕ). Some b) same; linked = linked } in
        let read : e.state ≡ up_again d = one_is_read u id bytes d e.state spelled h.1 in (
          subst (IsAskedState events) (sym read) (record { waiting = tt; working = tt; members = is d spelled }),
          subst (AreAskedLetters events) (sym h.2) (resumed_heard events u id e.state),
        )

    stays_down_asked : (old left : Option (List ℕ)) → IsAskedRecord events u id old → (left ≡ old) ⊎ (left ≡ first_if_none old (executor_text u id new_executor)) → IsAskedRecord events u id left
    stays_down_asked old left is (inl e) = same_record_asked left old e is
    stays_down_asked (Some bytes) left is (inr e) = same_record_asked left (Some bytes) e is
    stays_down_asked None left is (inr e) = new_record_asked left e

    pub reopens_asked : (old now : Slot ExecutorView) (new : List (Letter Body)) → slice_get w.executors id ≡ Some old → IsAskedSlot events u id old → ExecutorReopens u id old now new → IsAskedSlot events u id now × AreAskedLetters events new
    reopens_asked (Up e) now new placed is h = (subst (IsAskedSlot events u id) (sym h.0) is, subst (AreAskedLetters events) (sym h.1) tt)
    reopens_asked (Gone kept) now new placed is h = (subst (IsAskedSlot events u id) (sym h.0) is, subst (AreAskedLetters events) (sym h.1) tt)
    reopens_asked (Down kept) now new placed is (inl h) =
        let mine = held.same.executors id (Down kept) placed in
        let comes = goes_on_asked kept h.1.0 new mine.0 kept.saved is mine.2 (linked_at id mine.0 mine.1) h.1.2 in
        (subst (IsAskedSlot events u id) (sym h.1.1) comes.0, comes.1)
    reopens_asked (Down kept) now new placed is (inr h) = (
      subst (IsAskedSlot events u id) (sym h.1) (stays_down_asked kept.saved h.0.saved is h.3.record_is),
      subst (AreAskedLetters events) (sym h.2) tt,
    )

    -- ---- a crash, a loss, and a save that is to fail

    pub crashed_asked : (slot : Slot ExecutorView) → slice_get w.executors id ≡ Some slot → IsAskedSlot events u id slot → IsAskedSlot events u id (crashed_slot executor_kept slot)
    crashed_asked (Up e) placed is = up_record_asked e placed is
    crashed_asked (Down kept) placed is = is
    crashed_asked (Gone kept) placed is = is

    pub lost_asked : (slot : Slot ExecutorView) → slice_get w.executors id ≡ Some slot → IsAskedSlot events u id slot → IsAskedSlot events u id (lost_slot executor_kept slot)
    lost_asked (Up e) placed is = up_record_asked e placed is
    lost_asked (Down kept) placed is = is
    lost_asked (Gone kept) placed is = is

    pub told_asked : (slot : Slot ExecutorView) → slice_get w.executors id ≡ Some slot → IsAskedSlot events u id slot → IsAskedSlot events u id (told_slot executor_told slot)
    told_asked (Up e) placed is = record { waiting = is.waiting; working = is.working; members = is.members }
    told_asked (Down kept) placed is = is
    told_asked (Gone kept) placed is = is
