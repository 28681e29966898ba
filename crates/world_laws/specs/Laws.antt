-- What holds of every world that is reached.
use Rattle.std.specs.Prelude.{◌≡◌, ℕ, ◌≤◌, ◌⊎◌, ◌↔◌, Bool, true, false, not, IsTrue, List, [], ◌∷◌, ◌++◌, Option, None, Some, slice_get}
use Rattle.std.specs.List.{list_any}
use Rattle.decrees.specs.declared.decree.Decree.{Decree}
use Rattle.decrees.specs.Count.{count_below, member_count}
use Rattle.decrees.specs.Standing.{decree_at}
use Rattle.verifier.specs.State.{VerifierState}
use Rattle.verifier.specs.Record.{record_text}
use Rattle.verifier.specs.Verifier.{VerifierView}
use Rattle.agreement_laws.specs.Letters.{Chosen, Backed}
use Rattle.agreement_laws.specs.ChosenList.{chosen}
use Rattle.agreement_laws.specs.Laws.{Holds, StartsAbove}
use Rattle.events.specs.declared.event.Event.{Event}
use Rattle.events.specs.declared.event.Event.TheVariants.{Feed, Again, Hangup, Deliver, Cut, Step, Finish, Suspect, Trim, Crash, Restart, Lost, FailSave}
use Rattle.slots.specs.Slot.{Slot}
use Rattle.slots.specs.declared.slot.Slot.TheVariants.{Up, Down, Gone}
use Rattle.events.specs.Config.{ConfigView}
use Rattle.slots.specs.Status.{is_gone}
use Rattle.worlds.specs.World.{WorldView, ReachedWorlds, IsReached}
use Rattle.world_laws.specs.Ballots.{ballots}
use Rattle.world_laws.specs.Machines.{HaveMachines}

-- each reached world is of a reached machine, and the next world of one that comes of that
abbrev pub WorldsAreOfMachines : Type 0
WorldsAreOfMachines = (c : ConfigView) (events : List Event) (worlds : List WorldView) → ReachedWorlds c events worlds → HaveMachines c.u [] worlds

-- the decree is chosen at the place, by the letters of this world
abbrev pub ChosenInWorld : WorldView → ℕ → Decree → Type 0
ChosenInWorld w place d = Chosen w.u (ballots w.letters) place d

-- two decrees that are chosen at one place are the same
abbrev pub OneIsChosen : WorldView → Type 0
OneIsChosen w = (place : ℕ) (a b : Decree) → ChosenInWorld w place a → ChosenInWorld w place b → a ≡ b

-- each chosen decree is backed
abbrev pub ChosenIsBacked : WorldView → Type 0
ChosenIsBacked w = (place : ℕ) (d : Decree) → ChosenInWorld w place d → Backed w.u (ballots w.letters) place d

-- the record of a verifier
abbrev pub verifier_record : Slot VerifierView → Option (List ℕ)
verifier_record (Up v) = v.saved
verifier_record (Down kept) = kept.saved
verifier_record (Gone kept) = kept.saved

-- how many verifiers are lost for good
abbrev pub lost_verifiers : WorldView → ℕ
lost_verifiers w = count_below (λ id. is_gone (slice_get w.verifiers id)) (member_count w.u)

-- a verifier that is not lost has a record that holds the decree, in its log or as what it has accepted
pub record VerifierKeeps (w : WorldView) (place : ℕ) (d : Decree) : Type 0 where
  pub verifier : ℕ
  pub slot : Slot VerifierView
  pub there : slice_get w.verifiers verifier ≡ Some slot
  pub not_lost : is_gone (Some slot) ≡ false
  pub saved : VerifierState
  pub record_is : verifier_record slot ≡ Some (record_text w.u verifier saved)
  pub holds : Holds saved place d

-- the chosen decrees, from place 1 on
abbrev pub chosen_list : WorldView → List Decree
chosen_list w = chosen w.u (ballots w.letters)

-- a verifier that is not lost has a record that holds the decree, or begins above it with what the chosen decrees stand for
pub record VerifierStands (w : WorldView) (place : ℕ) (d : Decree) : Type 0 where
  pub verifier : ℕ
  pub slot : Slot VerifierView
  pub there : slice_get w.verifiers verifier ≡ Some slot
  pub not_lost : is_gone (Some slot) ≡ false
  pub saved : VerifierState
  pub record_is : verifier_record slot ≡ Some (record_text w.u verifier saved)
  pub keeps : Holds saved place d ⊎ StartsAbove (chosen_list w) saved place

-- if at most u verifiers are lost, another one keeps each chosen decree, or what stands after it
abbrev pub ChosenStands : WorldView → Type 0
ChosenStands w = lost_verifiers w ≤ w.u → (place : ℕ) (d : Decree) → ChosenInWorld w place d → VerifierStands w place d

-- if at most u verifiers are lost, another one keeps each chosen decree
abbrev pub ChosenIsKept : WorldView → Type 0
ChosenIsKept w = lost_verifiers w ≤ w.u → (place : ℕ) (d : Decree) → ChosenInWorld w place d → VerifierKeeps w place d

abbrev pub OneIsChosenInWorlds : Type 0
OneIsChosenInWorlds = (c : ConfigView) (events : List Event) (w : WorldView) → IsReached c events w → OneIsChosen w

abbrev pub ChosenIsBackedInWorlds : Type 0
ChosenIsBackedInWorlds = (c : ConfigView) (events : List Event) (w : WorldView) → IsReached c events w → ChosenIsBacked w

abbrev pub ChosenStandsInWorlds : Type 0
ChosenStandsInWorlds = (c : ConfigView) (events : List Event) (w : WorldView) → IsReached c events w → ChosenStands w

-- the event tells a verifier that it may forget decrees
abbrev pub is_trim : Event → Bool
is_trim (Feed client bytes) = false
is_trim (Again client) = false
is_trim (Hangup client) = false
is_trim (Deliver letter) = false
is_trim (Cut executor moment) = false
is_trim (Step executor place) = false
is_trim (Finish executor) = false
is_trim (Suspect verifier) = false
is_trim (Trim verifier place) = true
is_trim (Crash replica) = false
is_trim (Restart replica) = false
is_trim (Lost replica) = false
is_trim (FailSave replica) = false

-- no verifier is told to forget decrees
abbrev pub trims_none : List Event → Bool
trims_none events = not (list_any is_trim events)

abbrev pub ChosenIsKeptInWorlds : Type 0
ChosenIsKeptInWorlds = (c : ConfigView) (events : List Event) (w : WorldView) → IsTrue (trims_none events) → IsReached c events w → ChosenIsKept w

abbrev pub ListIsChosenInWorlds : Type 0
ListIsChosenInWorlds = (c : ConfigView) (events : List Event) (w : WorldView) (place : ℕ) (d : Decree) → IsReached c events w → (decree_at (chosen_list w) place ≡ Some d) ↔ ChosenInWorld w place d

-- in each of these worlds, one after another, the list begins with that of the world before
abbrev pub ListsGrow : WorldView → List WorldView → Type 0
ListsGrow w [] = Unit {0}
ListsGrow w (x ∷ xs) = ((new : List Decree) × (chosen_list x ≡ chosen_list w ++ new)) × ListsGrow x xs

abbrev pub ListGrowsInWorlds : Type 0
ListGrowsInWorlds = (c : ConfigView) (events : List Event) (first : WorldView) (later : List WorldView) → ReachedWorlds c events (first ∷ later) → ListsGrow first later
