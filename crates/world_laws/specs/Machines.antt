-- A world, seen as a machine of `agreement_laws`: its verifiers, and its ballots.
use Rattle.std.specs.Prelude.{◌≡◌, ℕ, List, [], ◌∷◌, ◌++◌, length, Some, slice_get}
use Rattle.decrees.specs.Count.{member_count}
use Rattle.verifier.specs.Verifier.{VerifierView}
use Rattle.agreement_laws.specs.Machine as machine
use Rattle.agreement_laws.specs.Machine.{Machine, reached}
use Rattle.agreement_laws.specs.Verifiers.{IsIn, IsKeptAt}
use Rattle.slots.specs.Slot.{Slot}
use Rattle.slots.specs.declared.slot.Slot.TheVariants.{Up, Down, Gone}
use Rattle.worlds.specs.World.{WorldView}
use Rattle.world_laws.specs.Ballots.{ballots}

-- verifier `id` of the machine is the one in this slot, by its state or by its record
abbrev pub IsSameVerifier : ℕ → ℕ → machine.VerifierSlot → Slot VerifierView → Type 0
IsSameVerifier u id (machine.Up s saved) (Up v) = IsIn u id (machine.Up s saved) v
IsSameVerifier u id (machine.Stopped saved) (Up v) = ⊥
IsSameVerifier u id machine.New (Up v) = ⊥
IsSameVerifier u id mine (Down kept) = IsKeptAt u id mine kept.saved
IsSameVerifier u id mine (Gone kept) = IsKeptAt u id mine kept.saved

pub record IsOfMachine (u : ℕ) (w : WorldView) (m : Machine) : Type 0 where
  pub same_u : w.u ≡ u
  pub letters : ballots w.letters ≡ m.letters
  pub count : length w.verifiers ≡ member_count u
  pub verifiers : (id : ℕ) (slot : Slot VerifierView) → slice_get w.verifiers id ≡ Some slot → (mine : machine.VerifierSlot) × (slice_get m.verifiers id ≡ Some mine) × IsSameVerifier u id mine slot

-- each of these worlds is of a machine that is reached, the first one after these events, and each later one after more of them
abbrev pub HaveMachines : ℕ → List machine.Event → List WorldView → Type 0
HaveMachines u before [] = Unit {0}
HaveMachines u before (w ∷ ws) = (more : List machine.Event) × IsOfMachine u w (reached u (before ++ more)) × HaveMachines u (before ++ more) ws
