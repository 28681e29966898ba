-- What a tick does of what waits, and of the nodes that stopped.
use Rattle.std.specs.Prelude.{◌≡◌, ◌≢◌, ℕ, ◌+◌, ◌-◌, ◌*◌, ◌<◌, Bool, true, false, nat_lt, List, Option, Some, None, length, slice_get, slice_set, if◌then◌else◌}
use Rattle.events.specs.declared.event.Replica.{Replica}
use Rattle.events.specs.declared.event.Replica.TheVariants.{Executor, Verifier}
use Rattle.housekeeping.specs.declared.patience.Patience.{Patience}
use Rattle.housekeeping.specs.declared.patience.Seen.{Seen}
use Rattle.housekeeping.specs.declared.patience.Urge.{Urge}
use Rattle.housekeeping.specs.declared.patience.Urge.TheVariants.{Wait, Again, Suspect}
use Rattle.housekeeping.specs.Patience.{urge_of, after_tick}
use Rattle.ensemble.specs.Nodes.{NodesView}
use Rattle.ensemble.specs.Shown.{is_up_at}
use Rattle.service.specs.declared.assignment.Outstanding.{Outstanding}
use Rattle.service.specs.declared.pause.Pause.{Pause}
use Rattle.service.specs.Pause.{is_pause_over, after_up, after_down}
use Rattle.service.specs.Service.{ReplicasView, ServiceView}
use Rattle.service.specs.Told.{UnlessRefused}

-- ---- what waits

-- it is sent again, and the server is so far
abbrev pub sent_again : Seen → Patience → Patience
sent_again seen p = record p { since = seen; has_asked_again = true }

abbrev pub after_urge : Seen → Urge → Patience → Patience
after_urge seen Wait p = p
after_urge seen Again p = sent_again seen p
after_urge seen Suspect p = sent_again seen p

-- the patience after one more tick: if it is due the request is sent again
abbrev pub waited_on : ℕ → Seen → Patience → Patience
waited_on u seen p = after_urge seen (urge_of u p seen) (after_tick u p seen)

abbrev pub with_patience : (Patience → Patience) → Option Outstanding → Option Outstanding
with_patience after None = None
with_patience after (Some o) = Some (record o { patience = after o.patience })

abbrev pub urge_in : ℕ → Seen → Option Outstanding → Urge
urge_in u seen None = Wait
urge_in u seen (Some o) = urge_of u o.patience seen

abbrev pub SetsPatienceIn : (Patience → Patience) → ℕ → List (Option Outstanding) → List (Option Outstanding) → Option (Option Outstanding) → Type 0
SetsPatienceIn after at old new None = new ≡ old
SetsPatienceIn after at old new (Some slot) = new ≡ slice_set old at (with_patience after slot)

-- what waits in this slot, if something does, has this patience then
abbrev pub SetsPatience : (Patience → Patience) → ℕ → List (Option Outstanding) → List (Option Outstanding) → Type 0
SetsPatience after at old new = SetsPatienceIn after at old new (slice_get old at)

abbrev pub urge_at : ℕ → Seen → Option (Option Outstanding) → Urge
urge_at u seen None = Wait
urge_at u seen (Some slot) = urge_in u seen slot

-- All proxies that wait have waited one tick longer, with 2u + 1 executors and the server so far.
abbrev pub AllHaveWaited : ℕ → Seen → List (Option Outstanding) → List (Option Outstanding) → Type 0
AllHaveWaited u seen old new = (i : ℕ) (slot : Option Outstanding) → slice_get old i ≡ Some slot → slice_get new i ≡ Some (with_patience (waited_on u seen) slot)

-- so they have, however far the server was
abbrev pub HaveWaited : List (Option Outstanding) → List (Option Outstanding) → Type 0
HaveWaited old new = (u : ℕ) × (seen : Seen) × AllHaveWaited u seen old new

-- ---- nodes

-- the node of this index: executors come first, then as many verifiers
abbrev pub replica_at : ℕ → ℕ → Replica
replica_at members at = if nat_lt at members then Executor at else Verifier (at - members)

-- whether the node of this index is up
abbrev pub is_up_in : NodesView → ℕ → Bool
is_up_in n at = is_up_at n (replica_at (2 * n.u + 1) at)

-- each of the 2u + 1 executors and of as many verifiers has a pause
abbrev pub EachHasPause : ReplicasView → Type 0
EachHasPause r = length r.pauses ≡ 2 * (2 * r.ensemble.nodes.u + 1)

-- each node is up
abbrev pub AreAllUpIn : ReplicasView → Type 0
AreAllUpIn r = (at : ℕ) → at < length r.pauses → is_up_in r.ensemble.nodes at ≡ true

-- There are 2u + 1 executors and as many verifiers, of this u, and each has a pause.
pub record HavePauses (u : ℕ) (n : NodesView) (members : ℕ) (pauses : List Pause) : Type 0 where
  pub few : u < 4
  pub same : n.u ≡ u
  pub members_are : members ≡ 2 * u + 1
  pub each : length pauses ≡ 2 * members

abbrev pub pause_after : Bool → Pause → Pause
pause_after true p = after_up p
pause_after false p = after_down p

-- a node is opened if it is down and its pause has gone by
abbrev pub is_opened : Bool → Pause → Bool
is_opened true p = false
is_opened false p = is_pause_over p

abbrev pub NodeTicksIn : ℕ → Bool → List Pause → List Pause → Bool → Option Pause → Type 0
NodeTicksIn at is_up old new due None = (new ≡ old) × (due ≡ false)
NodeTicksIn at is_up old new due (Some p) = (new ≡ slice_set old at (pause_after is_up p)) × (due ≡ is_opened is_up p)

-- a tick finds the node of this index up or down
abbrev pub NodeTicks : ℕ → Bool → List Pause → List Pause → Bool → Type 0
NodeTicks at is_up old new due = NodeTicksIn at is_up old new due (slice_get old at)

-- the pause of each node is that after a tick that found it up, or down
abbrev pub HavePaused : List Pause → List Pause → Type 0
HavePaused old new = (i : ℕ) (p : Pause) → slice_get old i ≡ Some p → (is_up : Bool) × (slice_get new i ≡ Some (pause_after is_up p))

-- all nodes but the one of this index are up or down as before
abbrev pub OthersStay : ℕ → NodesView → NodesView → Type 0
OthersStay at n now = (other : ℕ) → other ≢ at → is_up_in now other ≡ is_up_in n other

-- the node of this index is up, unless something was refused, if it was due. Else all nodes are as before
abbrev pub IsOpenedIf : Bool → ℕ → ReplicasView → ReplicasView → Type 0
IsOpenedIf true at old new = UnlessRefused old.refused new.refused (is_up_in new.ensemble.nodes at ≡ true)
IsOpenedIf false at old new = new.ensemble.nodes ≡ old.ensemble.nodes

-- A tick found the node of this index up or down, and its pause was this.
pub record HasTicked (at : ℕ) (is_up : Bool) (p : Pause) (refused : ℕ) (now : ReplicasView) : Type 0 where
  -- one that it found up is up
  pub stays : is_up ≡ true → is_up_in now.ensemble.nodes at ≡ true
  -- one that it found down is up if its pause had gone by, unless something was refused
  pub opens : is_opened is_up p ≡ true → UnlessRefused refused now.refused (is_up_in now.ensemble.nodes at ≡ true)
  -- else it is down
  pub rests : is_up ≡ false → is_opened is_up p ≡ false → is_up_in now.ensemble.nodes at ≡ false

-- the node of this index has this pause then
abbrev pub NodeHasTicked : ℕ → Pause → ℕ → ReplicasView → Type 0
NodeHasTicked at p refused now = (is_up : Bool) × (slice_get now.pauses at ≡ Some (pause_after is_up p)) × HasTicked at is_up p refused now

-- all nodes have
abbrev pub NodesHaveTicked : ReplicasView → ReplicasView → Type 0
NodesHaveTicked old now = (at : ℕ) (p : Pause) → slice_get old.pauses at ≡ Some p → NodeHasTicked at p old.refused now

-- ---- all

-- nothing is asked, and nothing is answered
pub record HasSameAsked (v now : ServiceView) : Type 0 where
  pub asked : now.asked ≡ v.asked
  pub answered : now.answered ≡ v.answered
  pub order : now.order ≡ v.order
  pub assignments : now.assignments ≡ v.assignments
  pub queue : now.queue ≡ v.queue
  pub found : now.replicas.ensemble.found ≡ v.replicas.ensemble.found
