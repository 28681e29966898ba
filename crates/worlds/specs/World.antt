-- All nodes, and all letters that were ever sent, through any list of events.
use Rattle.std.specs.Prelude.{◌≡◌, ℕ, zero, suc, true, false, List, [], ◌∷◌, ◌++◌, map, Option, None, Some, replicate, slice_get, slice_set}
use Rattle.decrees.specs.declared.ballot.Ballot.{Ballot}
use Rattle.decrees.specs.declared.node.Letter.{Letter}
use Rattle.decrees.specs.declared.node.Node.{Node}
use Rattle.decrees.specs.declared.node.Node.TheVariants as node
use Rattle.decrees.specs.Count.{member_count}
use Rattle.exec_lines.specs.declared.body.Body.{Body}
use Rattle.exec_lines.specs.declared.body.Body.TheVariants as body
use Rattle.exec_lines.specs.declared.input.Input as of_executor
use Rattle.exec_lines.specs.declared.input.Input.TheVariants as executor_input
use Rattle.exec_node.specs.Executor.{ExecutorView}
use Rattle.verifier.specs.declared.input.Input as of_verifier
use Rattle.verifier.specs.declared.input.Input.TheVariants as verifier_input
use Rattle.verifier.specs.Verifier.{VerifierView}
use Rattle.client.specs.declared.input.Input as of_client
use Rattle.client.specs.declared.input.Input.TheVariants as client_input
use Rattle.client.specs.Talk.{new_talk}
use Rattle.events.specs.declared.event.Event.{Event}
use Rattle.events.specs.declared.event.Event.TheVariants.{Feed, Again, Hangup, Deliver, Cut, Step, Finish, Suspect, Trim, Crash, Restart, Lost, FailSave}
use Rattle.events.specs.declared.event.Replica.{Replica}
use Rattle.events.specs.declared.event.Replica.TheVariants.{Executor, Verifier}
use Rattle.slots.specs.Slot.{Slot}
use Rattle.slots.specs.declared.slot.Slot.TheVariants.{Down}
use Rattle.events.specs.Config.{ConfigView}
use Rattle.slots.specs.Slots.{verifier_kept, executor_kept, verifier_told, executor_told, crashed_slot, lost_slot, told_slot, VerifierSettles, ExecutorSettles, VerifierReopens, ExecutorReopens, nothing_kept}
use Rattle.slots.specs.Sending.{as_sent}
use Rattle.worlds.specs.Clients.{ClientSlot, ClientSettles}

pub record WorldView : Type 0 where
  -- how many of 2u + 1 executors, and of as many verifiers, may fail
  pub u : ℕ
  -- by their numbers: clients from 1, replicas from 0
  pub clients : List ClientSlot
  pub executors : List (Slot ExecutorView)
  pub verifiers : List (Slot VerifierView)
  -- all that were ever sent, in this order: letters are numbered from 1
  pub letters : List (Letter Body)

-- ---- what becomes of one node, and what it sends

abbrev pub with_client : WorldView → ℕ → ClientSlot → List (Letter Body) → WorldView
with_client w i slot new = record w { clients = slice_set w.clients i slot; letters = w.letters ++ new }

abbrev pub with_executor : WorldView → ℕ → Slot ExecutorView → List (Letter Body) → WorldView
with_executor w id slot new = record w { executors = slice_set w.executors id slot; letters = w.letters ++ new }

abbrev pub with_verifier : WorldView → ℕ → Slot VerifierView → List (Letter Ballot) → WorldView
with_verifier w id slot new = record w { verifiers = slice_set w.verifiers id slot; letters = w.letters ++ map as_sent new }

-- the client in this slot, if there is one, is given the input
abbrev pub ClientAtGiven : WorldView → ℕ → of_client.Input → Option ClientSlot → WorldView → Type 0
ClientAtGiven w i x None now = now ≡ w
ClientAtGiven w i x (Some old) now = (slot : ClientSlot) × (new : List (Letter Body)) × ClientSettles old x slot new × (now ≡ with_client w i slot new)

-- clients are numbered from 1
abbrev pub ClientGiven : WorldView → ℕ → of_client.Input → WorldView → Type 0
ClientGiven w zero x now = now ≡ w
ClientGiven w (suc i) x now = ClientAtGiven w i x (slice_get w.clients i) now

abbrev pub ExecutorAtGiven : WorldView → ℕ → of_executor.Input → Option (Slot ExecutorView) → WorldView → Type 0
ExecutorAtGiven w id x None now = now ≡ w
ExecutorAtGiven w id x (Some old) now = (slot : Slot ExecutorView) × (new : List (Letter Body)) × ExecutorSettles old x slot new × (now ≡ with_executor w id slot new)

abbrev pub ExecutorGiven : WorldView → ℕ → of_executor.Input → WorldView → Type 0
ExecutorGiven w id x now = ExecutorAtGiven w id x (slice_get w.executors id) now

abbrev pub VerifierAtGiven : WorldView → ℕ → of_verifier.Input → Option (Slot VerifierView) → WorldView → Type 0
VerifierAtGiven w id x None now = now ≡ w
VerifierAtGiven w id x (Some old) now = (slot : Slot VerifierView) × (new : List (Letter Ballot)) × VerifierSettles old x slot new × (now ≡ with_verifier w id slot new)

abbrev pub VerifierGiven : WorldView → ℕ → of_verifier.Input → WorldView → Type 0
VerifierGiven w id x now = VerifierAtGiven w id x (slice_get w.verifiers id) now

-- ---- a replica is opened, or changed where it is

abbrev pub ExecutorAtOpened : WorldView → ℕ → Option (Slot ExecutorView) → WorldView → Type 0
ExecutorAtOpened w id None now = now ≡ w
ExecutorAtOpened w id (Some old) now = (slot : Slot ExecutorView) × (new : List (Letter Body)) × ExecutorReopens w.u id old slot new × (now ≡ with_executor w id slot new)

abbrev pub VerifierAtOpened : WorldView → ℕ → Option (Slot VerifierView) → WorldView → Type 0
VerifierAtOpened w id None now = now ≡ w
VerifierAtOpened w id (Some old) now = (slot : Slot VerifierView) × (new : List (Letter Ballot)) × VerifierReopens w.u id old slot new × (now ≡ with_verifier w id slot new)

abbrev pub changed_at : {N : Type 0} → List (Slot N) → ℕ → (Slot N → Slot N) → Option (Slot N) → List (Slot N)
changed_at slots id change None = slots
changed_at slots id change (Some slot) = slice_set slots id (change slot)

abbrev pub executor_changed : WorldView → ℕ → (Slot ExecutorView → Slot ExecutorView) → WorldView
executor_changed w id change = record w { executors = changed_at w.executors id change (slice_get w.executors id) }

abbrev pub verifier_changed : WorldView → ℕ → (Slot VerifierView → Slot VerifierView) → WorldView
verifier_changed w id change = record w { verifiers = changed_at w.verifiers id change (slice_get w.verifiers id) }

-- ---- a letter comes

-- to a client: only replies are for clients
abbrev pub ClientReached : WorldView → ℕ → Body → WorldView → Type 0
ClientReached w c (body.Reply number reply) now = ClientGiven w c (client_input.Reply number reply) now
ClientReached w c (body.Want r) now = now ≡ w
ClientReached w c (body.Order b) now = now ≡ w
ClientReached w c (body.Need q) now = now ≡ w
ClientReached w c (body.Parcel p) now = now ≡ w
ClientReached w c (body.Ballot b) now = now ≡ w

-- to a verifier: only ballots are for verifiers
abbrev pub VerifierReached : WorldView → Letter Body → ℕ → Body → WorldView → Type 0
VerifierReached w l id (body.Ballot b) now = VerifierGiven w id (verifier_input.Letter (record { from = l.from; to = l.to; body = b })) now
VerifierReached w l id (body.Want r) now = now ≡ w
VerifierReached w l id (body.Order b) now = now ≡ w
VerifierReached w l id (body.Reply number reply) now = now ≡ w
VerifierReached w l id (body.Need q) now = now ≡ w
VerifierReached w l id (body.Parcel p) now = now ≡ w

abbrev pub NodeReached : WorldView → Letter Body → Node → WorldView → Type 0
NodeReached w l (node.Client c) now = ClientReached w c l.body now
NodeReached w l (node.Executor id) now = ExecutorGiven w id (executor_input.Letter l) now
NodeReached w l (node.Verifier id) now = VerifierReached w l id l.body now

-- letters are numbered from 1
abbrev pub letter_at : List (Letter Body) → ℕ → Option (Letter Body)
letter_at letters zero = None
letter_at letters (suc k) = slice_get letters k

abbrev pub IsDelivered : WorldView → Option (Letter Body) → WorldView → Type 0
IsDelivered w None now = now ≡ w
IsDelivered w (Some l) now = NodeReached w l l.to now

-- ---- a step of the world

abbrev pub WorldNext : WorldView → Event → WorldView → Type 0
WorldNext w (Feed c bytes) now = ClientGiven w c (client_input.Feed bytes) now
WorldNext w (Again c) now = ClientGiven w c client_input.Again now
WorldNext w (Hangup c) now = ClientGiven w c client_input.Hangup now
WorldNext w (Deliver k) now = IsDelivered w (letter_at w.letters k) now
WorldNext w (Cut id moment) now = ExecutorGiven w id (executor_input.Cut moment) now
WorldNext w (Step id place) now = ExecutorGiven w id (executor_input.Step place) now
WorldNext w (Finish id) now = ExecutorGiven w id executor_input.Finish now
WorldNext w (Suspect id) now = VerifierGiven w id verifier_input.Suspect now
WorldNext w (Trim id place) now = VerifierGiven w id (verifier_input.Trim place) now
WorldNext w (Crash (Executor id)) now = now ≡ executor_changed w id (crashed_slot executor_kept)
WorldNext w (Crash (Verifier id)) now = now ≡ verifier_changed w id (crashed_slot verifier_kept)
WorldNext w (Restart (Executor id)) now = ExecutorAtOpened w id (slice_get w.executors id) now
WorldNext w (Restart (Verifier id)) now = VerifierAtOpened w id (slice_get w.verifiers id) now
WorldNext w (Lost (Executor id)) now = now ≡ executor_changed w id (lost_slot executor_kept)
WorldNext w (Lost (Verifier id)) now = now ≡ verifier_changed w id (lost_slot verifier_kept)
WorldNext w (FailSave (Executor id)) now = now ≡ executor_changed w id (told_slot executor_told)
WorldNext w (FailSave (Verifier id)) now = now ≡ verifier_changed w id (told_slot verifier_told)

-- ---- plays

-- one world after each event
abbrev pub WorldRuns : WorldView → List Event → List WorldView → Type 0
WorldRuns w [] [] = Unit {0}
WorldRuns w [] (x ∷ xs) = ⊥
WorldRuns w (e ∷ es) [] = ⊥
WorldRuns w (e ∷ es) (x ∷ xs) = WorldNext w e x × WorldRuns x es xs

abbrev pub last_world : WorldView → List WorldView → WorldView
last_world w [] = w
last_world w (x ∷ xs) = last_world x xs

-- so many clients, of which nothing came yet
abbrev pub new_clients : ℕ → ℕ → List ClientSlot
new_clients u zero = []
new_clients u (suc n) = new_clients u n ++ record { client = record { client = suc n; u = u; talk = new_talk; up = true }; given = [] } ∷ []

-- all replicas are down, and none has a record
abbrev pub unopened_world : ConfigView → WorldView
unopened_world c = record {
  u = c.u;
  clients = new_clients c.u c.clients;
  executors = replicate (member_count c.u) (Down nothing_kept);
  verifiers = replicate (member_count c.u) (Down nothing_kept);
  letters = [];
}

abbrev pub restarts_below : (ℕ → Replica) → ℕ → List Event
restarts_below replica zero = []
restarts_below replica (suc n) = restarts_below replica n ++ Restart (replica n) ∷ []

-- all replicas are opened, by number, executors first
abbrev pub opening_events : ℕ → List Event
opening_events u = restarts_below Executor (member_count u) ++ restarts_below Verifier (member_count u)

-- the world in which all replicas were opened, as far as there was memory for it
abbrev pub IsFirstWorld : ConfigView → WorldView → Type 0
IsFirstWorld c first = (opening : List WorldView) × WorldRuns (unopened_world c) (opening_events c.u) opening × (last_world (unopened_world c) opening ≡ first)

-- one world for each beginning of the events: the first world, and then one after each event
abbrev pub ReachedWorlds : ConfigView → List Event → List WorldView → Type 0
ReachedWorlds c events [] = ⊥
ReachedWorlds c events (first ∷ later) = IsFirstWorld c first × WorldRuns first events later

abbrev pub EndsWith : List WorldView → WorldView → Type 0
EndsWith [] w = ⊥
EndsWith (first ∷ later) w = last_world first later ≡ w

-- the world is the last one that these events lead to
pub record IsReached (c : ConfigView) (events : List Event) (w : WorldView) : Type 0 where
  pub worlds : List WorldView
  pub reached : ReachedWorlds c events worlds
  pub ends : EndsWith worlds w
