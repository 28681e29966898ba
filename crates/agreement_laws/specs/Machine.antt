-- Verifiers 0 to 2u and all letters ever sent, through any list of events.
use Rattle.std.specs.Prelude.{ℕ, List, [], ◌∷◌, ◌++◌, Option, None, Some, replicate, slice_get, slice_set, if◌then◌else◌}
use Rattle.decrees.specs.declared.ballot.Ballot.{Ballot}
use Rattle.decrees.specs.declared.node.Letter.{Letter}
use Rattle.decrees.specs.declared.node.Node.{Node}
use Rattle.decrees.specs.declared.node.Node.TheVariants.{Client, Executor, Verifier}
use Rattle.decrees.specs.Count.{member_count}
use Rattle.verifier.specs.declared.input.Input.{Input}
use Rattle.verifier.specs.declared.input.Input.TheVariants as input
use Rattle.verifier.specs.State.{VerifierState, OutcomeView, new_state, down}
use Rattle.verifier.specs.Lines.{restarted}
use Rattle.verifier.specs.Step.{step}
use Rattle.agreement_laws.specs.Letters.{Letters}

-- A verifier: one that was not opened yet and has no record; one that is up, with its state and its record; or one that has stopped, with its record. A record is of the view, the log and the accepted decree of a state, and so it is what `down` leaves of that.
pub data VerifierSlot : Type 0 where
  New : VerifierSlot
  Up : (state saved : VerifierState) → VerifierSlot
  Stopped : (saved : VerifierState) → VerifierSlot

pub record Machine : Type 0 where
  pub verifiers : List VerifierSlot
  pub letters : Letters

-- A step is done; or the verifier stops in it, no letter of it leaves, and the record is the one before or the one after.
pub data Luck : Type 0 where
  Done : Luck
  StopsBefore : Luck
  StopsAfter : Luck

pub data Event : Type 0 where
  -- the letter of this number, from 0, comes to the verifier that it is for; each may come at any time, any number of times, or never
  Deliver : (k : ℕ) → Luck → Event
  -- the verifier suspects the leader
  Suspect : (v : ℕ) → Luck → Event
  -- the verifier is told that it may forget the decrees up to this place
  Trim : (v place : ℕ) → Luck → Event
  -- the verifier stops between two steps
  Crash : (v : ℕ) → Event
  -- a verifier that is not up is opened
  Restart : (v : ℕ) → Luck → Event
  -- a node that is no verifier sends a letter, whatever it says
  Send : (l : Letter Ballot) → Event

abbrev pub with_slot : Machine → ℕ → VerifierSlot → Machine
with_slot m v slot = record m { verifiers = slice_set m.verifiers v slot }

-- the record after a step that is done
abbrev pub saved_after : VerifierState → OutcomeView → VerifierState
saved_after saved o = if o.saves then down o.state else saved

-- a step of a verifier with this record
abbrev pub settled : Machine → ℕ → VerifierState → OutcomeView → Luck → Machine
settled m v saved o Done = record { verifiers = slice_set m.verifiers v (Up o.state (saved_after saved o)); letters = m.letters ++ o.letters }
settled m v saved o StopsBefore = with_slot m v (Stopped saved)
settled m v saved o StopsAfter = with_slot m v (Stopped (saved_after saved o))

-- a verifier that is up is given the input
abbrev pub given : ℕ → Machine → ℕ → Input → Luck → Option VerifierSlot → Machine
given u m v x luck None = m
given u m v x luck (Some New) = m
given u m v x luck (Some (Stopped saved)) = m
given u m v x luck (Some (Up s saved)) = settled m v saved (step u v s x) luck

-- letters to others than verifiers change no verifier
abbrev pub reached_node : ℕ → Machine → Letter Ballot → Luck → Node → Machine
reached_node u m l luck (Client c) = m
reached_node u m l luck (Executor e) = m
reached_node u m l luck (Verifier v) = given u m v (input.Letter l) luck (slice_get m.verifiers v)

abbrev pub delivered : ℕ → Machine → Luck → Option (Letter Ballot) → Machine
delivered u m luck None = m
delivered u m luck (Some l) = reached_node u m l luck l.to

abbrev pub crashed : Machine → ℕ → Option VerifierSlot → Machine
crashed m v None = m
crashed m v (Some New) = m
crashed m v (Some (Stopped saved)) = m
crashed m v (Some (Up s saved)) = with_slot m v (Stopped saved)

-- a verifier that has saved nothing saves its first state and is up, or stops
abbrev pub opened_new : ℕ → Machine → ℕ → Luck → Machine
opened_new u m v Done = with_slot m v (Up (new_state u v) (down (new_state u v)))
opened_new u m v StopsBefore = m
opened_new u m v StopsAfter = with_slot m v (Stopped (down (new_state u v)))

-- one that has a record goes on from it
abbrev pub opened : ℕ → Machine → ℕ → Luck → Option VerifierSlot → Machine
opened u m v luck None = m
opened u m v luck (Some New) = opened_new u m v luck
opened u m v luck (Some (Stopped saved)) = settled m v saved (restarted u v saved) luck
opened u m v luck (Some (Up s saved)) = m

abbrev pub sent_by : Machine → Letter Ballot → Node → Machine
sent_by m l (Client c) = record m { letters = m.letters ++ l ∷ [] }
sent_by m l (Executor e) = record m { letters = m.letters ++ l ∷ [] }
sent_by m l (Verifier v) = m

abbrev pub happens : ℕ → Machine → Event → Machine
happens u m (Deliver k luck) = delivered u m luck (slice_get m.letters k)
happens u m (Suspect v luck) = given u m v input.Suspect luck (slice_get m.verifiers v)
happens u m (Trim v place luck) = given u m v (input.Trim place) luck (slice_get m.verifiers v)
happens u m (Crash v) = crashed m v (slice_get m.verifiers v)
happens u m (Restart v luck) = opened u m v luck (slice_get m.verifiers v)
happens u m (Send l) = sent_by m l l.from

abbrev pub run : ℕ → List Event → Machine → Machine
run u [] m = m
run u (e ∷ es) m = run u es (happens u m e)

-- no verifier was opened yet, and no letter was sent
abbrev pub first_machine : ℕ → Machine
first_machine u = record { verifiers = replicate (member_count u) New; letters = [] }

abbrev pub reached : ℕ → List Event → Machine
reached u events = run u events (first_machine u)

-- all letters that were sent in these events
abbrev pub letters_of : ℕ → List Event → Letters
letters_of u events = (reached u events).letters
