-- What is done of one replica, and of what jobs send.
use Rattle.std.specs.Prelude.{◌≡◌, ℕ, ◌+◌, ◌-◌, ◌*◌, ◌^◌, ◌<◌, ◌≤◌, List, [], ◌++◌, flat_map, take, Some, slice_get}
use Rattle.decrees.specs.declared.ballot.Ballot.{Ballot}
use Rattle.decrees.specs.declared.node.Letter.{Letter}
use Rattle.events.specs.declared.event.Replica.{Replica}
use Rattle.events.specs.declared.event.Replica.TheVariants as replica
use Rattle.exec_lines.specs.declared.body.Body.{Body}
use Rattle.verifier.specs.Verifier.{VerifierView}
use Rattle.slots.specs.Slot.{Slot}
use Rattle.slots.specs.Slots.{verifier_kept, crashed_slot}
use Rattle.hosts.specs.Host.{HostView, HostReopens}
use Rattle.hosts.specs.Stops.{HostStops}
use Rattle.ensemble.specs.Nodes.{NodesView, AtHost, HostMoves, AtVerifier, VerifierMoves, VerifierOpens, RunsAll}
use Rattle.ensemble.specs.Served.{VerifierPosts}

-- the host of this number, if it is there, did this, and what it sent is under way
abbrev pub HostPosts : (HostView → HostView → List (Letter Body) → Type 0) → ℕ → NodesView → NodesView → Type 0
HostPosts Does id n now =
    (executors : List HostView) × (sent : List (Letter Body)) × AtHost Does id n.executors executors sent × (now ≡ record n { executors = executors; mail = n.mail ++ sent })

-- nothing was refused
pub record RefusedNothing (before now : ℕ) : Type 0 where
  pub same : now ≡ before
  pub below : before < 2 ^ 64 - 1

-- ---- a replica is opened

-- just the replica of this number did this; if there is none nothing was done
pub record OnlyMember (id : ℕ) (Done : Type 0) (n now : NodesView) : Type 0 where
  pub here : id ≤ 2 * n.u → Done
  pub beyond : 2 * n.u < id → now ≡ n

-- just this replica was opened, if it is there and down
abbrev pub IsReopened : Replica → NodesView → NodesView → Type 0
IsReopened (replica.Executor id) n now = OnlyMember id (HostMoves (λ h left sent. HostReopens n.u id h left sent) id n now) n now
IsReopened (replica.Verifier id) n now = OnlyMember id (VerifierMoves (VerifierOpens n.u id) id n now) n now

-- and what it sent is under way
abbrev pub IsReopenedAndPosts : Replica → NodesView → NodesView → Type 0
IsReopenedAndPosts (replica.Executor id) n now = OnlyMember id (HostPosts (λ h left sent. HostReopens n.u id h left sent) id n now) n now
IsReopenedAndPosts (replica.Verifier id) n now = OnlyMember id (VerifierPosts (VerifierOpens n.u id) id n now) n now

-- ---- a replica stops

-- it stopped, if it was up, and is down with what it kept
abbrev pub VerifierCrashes : Slot VerifierView → Slot VerifierView → List (Letter Ballot) → Type 0
VerifierCrashes v left sent = (left ≡ crashed_slot verifier_kept v) × (sent ≡ [])

-- just this replica stopped, if it is there and was up: it is down with what it kept, and all else is as it was
abbrev pub IsStopped : Replica → NodesView → NodesView → Type 0
IsStopped (replica.Executor id) n now = (executors : List HostView) × AtHost HostStops id n.executors executors [] × (now ≡ record n { executors = executors })
IsStopped (replica.Verifier id) n now = (verifiers : List (Slot VerifierView)) × AtVerifier VerifierCrashes id n.verifiers verifiers [] × (now ≡ record n { verifiers = verifiers })

-- ---- jobs

-- what jobs of executors below this number sent
abbrev pub sent_below : ℕ → List HostView → List (Letter Body)
sent_below count hosts = flat_map (λ h. h.sent) (take count hosts)

-- What the hosts below this number had was collected, and the others are as they were.
pub record CollectedBelow (count : ℕ) (n now : NodesView) : Type 0 where
  pub below : (id : ℕ) (h : HostView) → id < count → slice_get n.executors id ≡ Some h → slice_get now.executors id ≡ Some (record h { sent = [] })
  pub above : (id : ℕ) → count ≤ id → slice_get now.executors id ≡ slice_get n.executors id
  pub others : now ≡ record n { executors = now.executors; mail = now.mail }

-- Each executor that had a job ran it, what that sent was collected, and if nothing was refused it is under way.
pub record HaveRun (before after : ℕ) (n now : NodesView) : Type 0 where
  pub ran : NodesView
  pub runs : RunsAll n ran
  pub collected : CollectedBelow (2 * n.u + 1) ran now
  pub posted : RefusedNothing before after → now.mail ≡ n.mail ++ sent_below (2 * n.u + 1) ran.executors

-- what jobs sent was collected
abbrev pub AllCollected : NodesView → Type 0
AllCollected n = (id : ℕ) (h : HostView) → id < 2 * n.u + 1 → slice_get n.executors id ≡ Some h → h.sent ≡ []
