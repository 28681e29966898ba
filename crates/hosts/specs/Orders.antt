-- Orders that wait for their turn.
use Rattle.std.specs.Prelude.{◌≡◌, ℕ, ◌+◌, ◌-◌, ◌^◌, ◌==◌, ◌&&◌, ◌||◌, Bool, true, false, not, min, List, length, Contains, Option, None, Some, is_some, nat_le, if◌then◌else◌}
use Rattle.std.specs.List.{list_any}
use Rattle.decrees.specs.declared.node.Letter.{Letter}
use Rattle.rollback.specs.declared.chain.TheConstants.{MOST_MEMBERS}
use Rattle.exec_lines.specs.declared.body.Body.{Body}
use Rattle.exec_lines.specs.declared.body.Body.TheVariants as body
use Rattle.exec_lines.specs.State.{ExecutorState}
use Rattle.exec_node.specs.Executor.{ExecutorView}
use Rattle.slots.specs.Slot.{Slot}
use Rattle.slots.specs.Status.{node_at}
use Rattle.hosts.specs.Host.{HostView}

-- the epoch and the number of the batch that is ordered, if one is
abbrev pub ordered_turn : Body → Option (ℕ × ℕ)
ordered_turn (body.Order b) = Some (b.epoch, b.n)
ordered_turn (body.Want r) = None
ordered_turn (body.Reply number reply) = None
ordered_turn (body.Need q) = None
ordered_turn (body.Parcel p) = None
ordered_turn (body.Ballot b) = None

-- it is an order of just this epoch and this number
abbrev pub is_for : ℕ → ℕ → Option (ℕ × ℕ) → Bool
is_for epoch number None = false
is_for epoch number (Some turn) = (turn.0 == epoch) && (turn.1 == number)

-- it is an order of this epoch or a later one, and of this number or a later one
abbrev pub is_not_over : ℕ → ℕ → Option (ℕ × ℕ) → Bool
is_not_over epoch number None = false
is_not_over epoch number (Some turn) = nat_le epoch turn.0 && nat_le number turn.1

-- one of these orders the batch of this epoch and this number
abbrev pub has_order : ℕ → ℕ → List (Letter Body) → Bool
has_order epoch number held = list_any (λ l. is_for epoch number (ordered_turn l.body)) held

-- it executes a batch, or its chain has no room
abbrev pub is_busy : ExecutorState → Bool
is_busy s = nat_le MOST_MEMBERS (length s.chain.members) || is_some s.work

-- the number of the next batch over its chain, as far as it fits a machine word
abbrev pub awaited_number : ExecutorState → ℕ
awaited_number s = min (min (s.chain.have.number + length s.chain.members) (2 ^ 64 - 1) + 1) (2 ^ 64 - 1)

abbrev pub awaited_in : Option ExecutorView → Option (ℕ × ℕ)
awaited_in None = None
awaited_in (Some e) = if is_busy e.state then None else Some (e.state.standing.epoch, awaited_number e.state)

-- the epoch and the number of the order that the executor could obey now, if it is up and not busy
abbrev pub awaited_of : Slot ExecutorView → Option (ℕ × ℕ)
awaited_of slot = awaited_in (node_at slot)

abbrev pub has_due_for : Option (ℕ × ℕ) → List (Letter Body) → Bool
has_due_for None held = false
has_due_for (Some turn) held = has_order turn.0 turn.1 held

-- an order is held that the executor could obey now
abbrev pub has_due : HostView → Bool
has_due h = has_due_for (awaited_of h.slot) h.held

-- it is an order that comes after this one
abbrev pub is_after : ℕ → ℕ → Option (ℕ × ℕ) → Bool
is_after epoch number turn = is_not_over epoch number turn && not (is_for epoch number turn)

-- each order of these that comes after this one is still among those
abbrev pub LaterStay : ℕ → ℕ → List (Letter Body) → List (Letter Body) → Type 0
LaterStay epoch number held left = (l : Letter Body) → Contains held l → is_after epoch number (ordered_turn l.body) ≡ true → Contains left l

-- orders that come after the one that the executor could obey now are still held, and all are if it could obey none
abbrev pub StayHeld : Option (ℕ × ℕ) → List (Letter Body) → List (Letter Body) → Type 0
StayHeld None held left = left ≡ held
StayHeld (Some turn) held left = LaterStay turn.0 turn.1 held left
