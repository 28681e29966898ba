-- What is stored of a process tells its record, if the heads of states tell the states.
use Rattle.std.specs.Prelude.{◌≡◌, List}
use Rattle.keeper.specs.Kept.{Kept}
use Rattle.states.specs.State.{StateView, IsState}
use Rattle.states.specs.StateRecord.{head_of_state}
use Rattle.process_text.specs.declared.process_text.ProcessText.{ProcessText}
use Rattle.process_text.specs.Text.{IsProcessText}
use Rattle.process_text.specs.StateOf.{IsStateOf}
use Rattle.ensemble.specs.Kept.{ProcessView}
use Rattle.process_parts.specs.Parts.{restored_process, IsStoredOf, IsExecutorState}

-- Two states of these executors that have one head, the first state among them, are one state. It is so if digests tell the
-- states apart that were met.
abbrev pub HeadsTellStates : List Kept → Type 0
HeadsTellStates executors = (a b : StateView) → IsState a → IsState b → IsExecutorState executors a → IsExecutorState executors b → head_of_state a ≡ head_of_state b → a ≡ b

-- what is restored of a text and its state is stored as them
abbrev pub RestoredIsStored : Type 0
RestoredIsStored = (t : ProcessText) (s : StateView) → IsProcessText t → IsStateOf t s → IsStoredOf t s (restored_process t s)

-- what is restored is what was stored
abbrev pub StoredIsRestored : Type 0
StoredIsRestored = (t : ProcessText) (s : StateView) (r : ProcessView) → IsStoredOf t s r → IsExecutorState r.executors s → HeadsTellStates r.executors → restored_process t s ≡ r

-- two records that are stored as one text and one state are one record
abbrev pub StoredIsOneRecord : Type 0
StoredIsOneRecord = (t : ProcessText) (s : StateView) (a b : ProcessView) → IsStoredOf t s a → IsExecutorState a.executors s → HeadsTellStates a.executors
    → IsStoredOf t s b → IsExecutorState b.executors s → HeadsTellStates b.executors → a ≡ b
