-- The versions of records, and what a state is in each.
use Rattle.std.specs.Prelude.{ℕ, List, [], ◌∷◌}
use Rattle.items.specs.Map.{Items}
use Rattle.batches.specs.declared.batch.Batch.{Batch}
use Rattle.states.specs.declared.version.Version.{Version}
use Rattle.states.specs.declared.version.Version.TheVariants.{First, Second}
use Rattle.states.specs.State.{StateView, IsState}
use Rattle.states.specs.Followed.{IsSuccessor}
use Rattle.states.specs.StateRecord.{state_text, after_text}
use Rattle.states.specs.OldRecord.{old_state_text, old_after_text, IsOldState, IsOldSuccessor}

-- its byte in a record
abbrev pub version_mark : Version → ℕ
version_mark First = 1
version_mark Second = 2

abbrev pub version_text : Version → List ℕ
version_text version = version_mark version ∷ []

-- a state by itself
abbrev pub state_text_in : Version → StateView → List ℕ
state_text_in First = old_state_text
state_text_in Second = state_text

-- a state over the items of the state before it
abbrev pub after_text_in : Version → Items → StateView → List ℕ
after_text_in First = old_after_text
after_text_in Second = after_text

-- a state that the version has
abbrev pub IsStateIn : Version → StateView → Type 0
IsStateIn First = IsOldState
IsStateIn Second = IsState

-- a state that the batch makes of another, if the version has both
abbrev pub IsSuccessorIn : Version → StateView → Batch → StateView → Type 0
IsSuccessorIn First = IsOldSuccessor
IsSuccessorIn Second = IsSuccessor
