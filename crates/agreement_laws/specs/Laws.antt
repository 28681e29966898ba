-- What holds of every reached machine, whatever its events.
use Rattle.std.specs.Prelude.{◌≡◌, ℕ, ◌+◌, ◌-◌, ◌^◌, ◌<◌, ◌≤◌, ◌⊎◌, ◌↔◌, Bool, IsTrue, not, List, ◌++◌, length, take, Option, None, Some, slice_get, option_and_then, true, false}
use Rattle.std.specs.List.{list_any}
use Rattle.token.specs.declared.Token as token
use Rattle.decrees.specs.declared.decree.Decree.{Decree}
use Rattle.decrees.specs.declared.decree.Decree.TheVariants.{Commit}
use Rattle.decrees.specs.declared.ballot.Ballot.TheVariants.{Decided, Stands}
use Rattle.decrees.specs.declared.node.Node.TheVariants.{Verifier}
use Rattle.decrees.specs.Count.{count_below, member_count}
use Rattle.decrees.specs.declared.standing.Standing.{Standing}
use Rattle.decrees.specs.Standing.{standing, decree_at, is_log}
use Rattle.verifier.specs.State.{VerifierState, known, decree_of, next_place, down}
use Rattle.verifier.specs.Record.{record_text, IsRecord}
use Rattle.agreement_laws.specs.Letters.{Sent, Chosen, Backed, RestsOn}
use Rattle.agreement_laws.specs.Machine.{VerifierSlot, New, Up, Stopped, Event, Deliver, Suspect, Trim, Crash, Restart, Send, reached, letters_of}
use Rattle.agreement_laws.specs.ChosenList.{chosen}

-- two decrees that are chosen at one place are the same
abbrev pub AtMostOne : Type 0
AtMostOne = (u : ℕ) (events : List Event) (place : ℕ) (a b : Decree) → Chosen u (letters_of u events) place a → Chosen u (letters_of u events) place b → a ≡ b

-- in some play a Commit is chosen
abbrev pub SomethingIsChosen : Type 0
SomethingIsChosen = (u : ℕ) → u < 4 → (events : List Event) × ((t : token.Token) × Chosen u (letters_of u events) 1 (Commit 1 t))

-- each chosen decree is backed
abbrev pub AllBacked : Type 0
AllBacked = (u : ℕ) (events : List Event) (place : ℕ) (d : Decree) → Chosen u (letters_of u events) place d → Backed u (letters_of u events) place d

abbrev pub recorded : VerifierSlot → Option VerifierState
recorded New = None
recorded (Up s saved) = Some saved
recorded (Stopped saved) = Some saved

-- the record of a verifier, if it has one
abbrev pub record_of : List VerifierSlot → ℕ → Option VerifierState
record_of slots v = option_and_then recorded (slice_get slots v)

-- the decree is at its place in the log, or is the accepted one of the place after it
abbrev pub Holds : VerifierState → ℕ → Decree → Type 0
Holds s place d = (decree_of s place ≡ Some d) ⊎ ((place ≡ next_place s) × ((view : ℕ) × (s.accepted ≡ Some (view, d))))

-- the place was forgotten, and what stands at the start is what the chosen decrees up to there stand for
pub record StartsAbove (chosen : List Decree) (s : VerifierState) (place : ℕ) : Type 0 where
  pub forgotten : place ≤ s.start.place
  pub within : s.start.place ≤ length chosen
  pub stands : s.start.standing ≡ standing (take s.start.place chosen)

-- no verifier is told to forget
abbrev pub trims : Event → Bool
trims (Deliver k luck) = false
trims (Suspect v luck) = false
trims (Trim v place luck) = true
trims (Crash v) = false
trims (Restart v luck) = false
trims (Send l) = false

abbrev pub machine_trims_none : List Event → Bool
machine_trims_none events = not (list_any trims events)

-- a verifier that is not lost, with a record that holds the decree or begins above it
pub record KeptByRecord (u : ℕ) (verifiers : List VerifierSlot) (chosen : List Decree) (lost : ℕ → Bool) (place : ℕ) (d : Decree) : Type 0 where
  pub verifier : ℕ
  pub saved : VerifierState
  pub is_member : verifier < member_count u
  pub not_lost : IsTrue (not (lost verifier))
  pub has_record : record_of verifiers verifier ≡ Some saved
  pub keeps : Holds saved place d ⊎ StartsAbove chosen saved place

-- a verifier that is not lost, with a record that holds the decree
pub record HeldByRecord (u : ℕ) (verifiers : List VerifierSlot) (lost : ℕ → Bool) (place : ℕ) (d : Decree) : Type 0 where
  pub verifier : ℕ
  pub saved : VerifierState
  pub is_member : verifier < member_count u
  pub not_lost : IsTrue (not (lost verifier))
  pub has_record : record_of verifiers verifier ≡ Some saved
  pub holds : Holds saved place d

-- if at most u verifiers are lost, another keeps each chosen decree, or what stands after it
abbrev pub AllKept : Type 0
AllKept = (u : ℕ) (events : List Event) (lost : ℕ → Bool) (place : ℕ) (d : Decree) → count_below lost (member_count u) ≤ u → Chosen u (letters_of u events) place d → KeptByRecord u (reached u events).verifiers (chosen u (letters_of u events)) lost place d

-- and the decree itself, if none is told to forget
abbrev pub AllHeld : Type 0
AllHeld = (u : ℕ) (events : List Event) (lost : ℕ → Bool) (place : ℕ) (d : Decree) → IsTrue (machine_trims_none events) → count_below lost (member_count u) ≤ u → Chosen u (letters_of u events) place d → HeldByRecord u (reached u events).verifiers lost place d

-- what a verifier tells to stand is what the chosen decrees up to there stand for
pub record IsStandingAt (chosen : List Decree) (place : ℕ) (s : Standing) : Type 0 where
  pub within : place ≤ length chosen
  pub stands : s ≡ standing (take place chosen)

abbrev pub ToldStands : Type 0
ToldStands = (u : ℕ) (events : List Event) (v place : ℕ) (s : Standing) → Sent (letters_of u events) (Verifier v) (Stands place s) → IsStandingAt (chosen u (letters_of u events)) place s

-- what a verifier tells to be decided is chosen
abbrev pub ToldIsChosen : Type 0
ToldIsChosen = (u : ℕ) (events : List Event) (v place : ℕ) (d : Decree) → Sent (letters_of u events) (Verifier v) (Decided place d) → Chosen u (letters_of u events) place d

-- the computed list has, at each place, the decree that is chosen there, and no other
abbrev pub ListIsChosen : Type 0
ListIsChosen = (u : ℕ) (events : List Event) (place : ℕ) (d : Decree) → (decree_at (chosen u (letters_of u events)) place ≡ Some d) ↔ Chosen u (letters_of u events) place d

-- each decree of the list rests on those before it, and so the list is a log
pub record IsBackedList (u : ℕ) (events : List Event) : Type 0 where
  pub rests : (place : ℕ) (d : Decree) → decree_at (chosen u (letters_of u events)) place ≡ Some d → RestsOn u (letters_of u events) (take (place - 1) (chosen u (letters_of u events))) d
  pub log : IsTrue (is_log (chosen u (letters_of u events)))

abbrev pub ListIsBacked : Type 0
ListIsBacked = (u : ℕ) (events : List Event) → IsBackedList u events

-- what a record has is of the list: what is at its start, and the decrees after that
pub record IsOfList (chosen : List Decree) (s : VerifierState) : Type 0 where
  pub before : List Decree
  pub more : List Decree
  pub placed : length before ≡ s.start.place
  pub stands : standing before ≡ s.start.standing
  pub all : chosen ≡ (before ++ s.log) ++ more

abbrev pub LogsAreChosen : Type 0
LogsAreChosen = (u : ℕ) (events : List Event) (v : ℕ) (saved : VerifierState) → record_of (reached u events).verifiers v ≡ Some saved → IsOfList (chosen u (letters_of u events)) saved

-- more events only add to its end
abbrev pub ListGrows : Type 0
ListGrows = (u : ℕ) (events more : List Event) → (new : List Decree) × (chosen u (letters_of u (events ++ more)) ≡ chosen u (letters_of u events) ++ new)

-- what a record has is all that a crash leaves, and its bytes are read as just that
pub record IsReadBack (u v : ℕ) (saved : VerifierState) : Type 0 where
  pub fresh : saved ≡ down saved
  pub read : length saved.log < 2 ^ 32 → known saved + 1 < 2 ^ 64 → IsRecord u v (record_text u v saved) saved

abbrev pub RecordsAreReadBack : Type 0
RecordsAreReadBack = (u : ℕ) (events : List Event) (v : ℕ) (saved : VerifierState) → record_of (reached u events).verifiers v ≡ Some saved → IsReadBack u v saved
