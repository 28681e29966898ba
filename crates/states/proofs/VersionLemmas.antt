-- In each version a record identifies its state.
use Rattle.std.proofs.Common.{◌≡◌, ℕ, List, ◌++◌, sym, ◌∙◌}
use Rattle.items.specs.Map.{Items}
use Rattle.batches.specs.declared.batch.Batch.{Batch}
use Rattle.states.specs.declared.version.Version.{Version}
use Rattle.states.specs.declared.version.Version.TheVariants.{First, Second}
use Rattle.states.specs.State.{StateView, IsState}
use Rattle.states.specs.Followed.{IsSuccessor}
use Rattle.states.specs.OldRecord.{old_after_text, old_changes_text}
use Rattle.states.specs.Version.{state_text_in, after_text_in, IsStateIn, IsSuccessorIn}
use Rattle.states.proofs.RecordLemmas.{state_free, after_free}
use Rattle.states.proofs.OldRecordLemmas.{old_changes_free}
use Rattle.states.proofs.OldStateLemmas.{one_old, one_old_state}

-- a state that a version has is one of today
pub state_in : (version : Version) (s : StateView) → IsStateIn version s → IsState s
state_in First s is = is.state
state_in Second s is = is

pub successor_in : (version : Version) (old : StateView) (batch : Batch) (s : StateView) → IsSuccessorIn version old batch s → IsSuccessor old batch s
successor_in First old batch s is = is.follows
successor_in Second old batch s is = is

pub one_state_in : (version : Version) (s t : StateView) (rest others : List ℕ) → IsStateIn version s → IsStateIn version t → state_text_in version s ++ rest ≡ state_text_in version t ++ others → (s ≡ t) × (rest ≡ others)
one_state_in First s t rest others is it same = one_old_state s t rest others is it same
one_state_in Second s t rest others is it same = state_free.apart s t rest others same

one_old_after : (before : Items) (s t : StateView) (rest others : List ℕ) → (s.number ≡ t.number → s.form ≡ t.form) → old_after_text before s ++ rest ≡ old_after_text before t ++ others → (s ≡ t) × (rest ≡ others)
unfolding old_after_text
one_old_after before = one_old (old_changes_text before) (old_changes_free before)

-- and over the items of the state before it
pub one_after_in : (version : Version) (old older : StateView) (batch other : Batch) (before : Items) (s t : StateView) (rest others : List ℕ) → IsSuccessorIn version old batch s → IsSuccessorIn version older other t
    → after_text_in version before s ++ rest ≡ after_text_in version before t ++ others → (s ≡ t) × (rest ≡ others)
one_after_in First old older batch other before s t rest others is it same = one_old_after before s t rest others (λ n. is.old ∙ sym it.old) same
one_after_in Second old older batch other before s t rest others is it same = (after_free before).apart s t rest others same
