-- Which decrees verifiers forget.
use Rattle.std.specs.Prelude.{◌≡◌, ℕ, ◌+◌, ◌-◌, ◌<◌, ◌≤◌, List, [], Option, None, Some, nat_le, slice_get, if◌then◌else◌}
use Rattle.decrees.specs.declared.ballot.Ballot.{Ballot}
use Rattle.decrees.specs.declared.node.Letter.{Letter}
use Rattle.housekeeping.specs.declared.trimming.TheConstants.{MOST_DECREES, LEFT_DECREES}
use Rattle.verifier.specs.declared.input.Input.TheVariants.{Trim}
use Rattle.verifier.specs.State.{known}
use Rattle.verifier.specs.Verifier.{VerifierView}
use Rattle.slots.specs.Slot.{Slot}
use Rattle.slots.specs.Slots.{VerifierSettles}
use Rattle.slots.specs.Status.{node_at}
use Rattle.ensemble.specs.Nodes.{NodesView}

-- the place up to which decrees are forgotten by one that knows so many, and has forgotten those up to the place `start`
abbrev pub due_trim_of : ℕ → ℕ → Option ℕ
due_trim_of start known = if nat_le (start + MOST_DECREES) known then Some (known - LEFT_DECREES) else None

abbrev pub trim_place_in : Option VerifierView → Option ℕ
trim_place_in None = None
trim_place_in (Some v) = due_trim_of v.state.start.place (known v.state)

-- the place up to which the verifier is to forget decrees, if it is up and its log is long
abbrev pub trim_place : Slot VerifierView → Option ℕ
trim_place slot = trim_place_in (node_at slot)

abbrev pub VerifierTrimsTo : Option ℕ → Slot VerifierView → Slot VerifierView → List (Letter Ballot) → Type 0
VerifierTrimsTo None v left sent = (left ≡ v) × (sent ≡ [])
VerifierTrimsTo (Some place) v left sent = VerifierSettles v (Trim place) left sent

-- it was told so just if its log is long
abbrev pub VerifierTrimsDue : Slot VerifierView → Slot VerifierView → List (Letter Ballot) → Type 0
VerifierTrimsDue v left sent = VerifierTrimsTo (trim_place v) v left sent

-- the verifier was, and this is there now
abbrev pub IsTrimmed : Slot VerifierView → Option (Slot VerifierView) → Type 0
IsTrimmed v now = (left : Slot VerifierView) × (sent : List (Letter Ballot)) × (now ≡ Some left) × VerifierTrimsDue v left sent

-- each verifier below this number was told so just if its log is long, and the others are as they were
pub record AreTrimmedBelow (count : ℕ) (n now : NodesView) : Type 0 where
  pub below : (id : ℕ) (v : Slot VerifierView) → id < count → slice_get n.verifiers id ≡ Some v → IsTrimmed v (slice_get now.verifiers id)
  pub above : (id : ℕ) → count ≤ id → slice_get now.verifiers id ≡ slice_get n.verifiers id
