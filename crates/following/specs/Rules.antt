-- The rules by which a member hands in what it holds.
use Rattle.std.specs.Prelude.{◌≡◌, ◌≢◌, ◌≤◌, ℕ, ◌+◌, ◌-◌, ◌==◌, ◌&&◌, Bool, true, false, not, List, [], ◌∷◌, Option, None, Some, is_some, IsSomeAnd, ⊤, nat_lt, nat_le, slice_get, if◌then◌else◌}
use Rattle.std.specs.List.{position}
use Rattle.std.specs.Option.{option_map}
use Rattle.following.specs.declared.action.Action.{Action}
use Rattle.following.specs.declared.action.Action.TheVariants.{HandInOrder, HandInDecree, HandInParcel, DropParcel, Ask, Need, Wait}
use Rattle.following.specs.declared.letter.HeldLetter.{HeldLetter}
use Rattle.following.specs.declared.report.ExecutorReport.{ExecutorReport}
use Rattle.following.specs.declared.following.Following.{Following}
use Rattle.following.specs.declared.following.TheConstants.{ASK_TICKS, NEED_TICKS, STUCK_TICKS, ASKED_DECREES}
use Rattle.following.specs.Letters.{is_fetching, has_room_for_batch, next_decree_place, is_next_decree, is_later_decree, is_due_decree, is_next_order, is_any_parcel, is_parcel_of, is_parcel_below}

-- such a letter is held
abbrev pub is_held : (HeldLetter → Bool) → List HeldLetter → Bool
is_held test held = is_some (position test held)

-- what is done with the first such letter that is held, if one is
abbrev pub with_held : (ℕ → Action) → (HeldLetter → Bool) → List HeldLetter → Option Action
with_held action test held = option_map action (position test held)

-- a row of the table that applies only then
abbrev pub row_if : Bool → Option Action → Option Action
row_if true row = row
row_if false row = None

-- an Ask left a moment ago whose answer has the next decree
abbrev pub is_asked_already : Following → ExecutorReport → Bool
is_asked_already f r = nat_le f.asked_ticks ASK_TICKS && (nat_le f.asked (next_decree_place r) && nat_lt (next_decree_place r - f.asked) ASKED_DECREES)

-- for a second no Need has left, and no byte of a parcel has come
abbrev pub is_silent : Following → Bool
is_silent f = nat_lt NEED_TICKS f.quiet

-- the next decree has been held for more than two ticks while nothing led to it
abbrev pub is_overdue : Following → ExecutorReport → Bool
is_overdue f r = (f.stuck == next_decree_place r) && nat_lt STUCK_TICKS f.stuck_ticks

-- the executor after this one, round and round
abbrev pub peer_after : Following → ℕ → ℕ
peer_after f peer = if nat_lt peer f.last then peer + 1 else 0

-- the next executor to be asked for its state: not this one
abbrev pub next_peer : Following → ℕ
next_peer f = if peer_after f f.peer == f.id then peer_after f f.id else peer_after f f.peer

-- another one of the executors
abbrev pub IsOther : Following → ℕ → Type 0
IsOther f peer = (peer ≢ f.id) × (peer ≤ f.last)

-- while it fetches the state that stands
abbrev pub fetching_rules : Following → ExecutorReport → List HeldLetter → List (Option Action)
fetching_rules f r held =
    -- 1. A parcel is held. It is handed in if it is of the standing number, and let go if that is above.
    with_held HandInParcel (is_parcel_of r.standing) held
    ∷ with_held DropParcel (is_parcel_below r.standing) held
    -- Else the next decree is handed in, or asked for.
    ∷ row_if (is_held is_any_parcel held) (with_held HandInDecree (is_next_decree r) held)
    ∷ row_if (is_held is_any_parcel held && not (is_asked_already f r)) (Some (Ask (next_decree_place r)))
    -- 2. No parcel is held, and no byte of one came for a second: the next peer is asked for it.
    ∷ row_if (not (is_held is_any_parcel held) && (is_silent f && nat_lt 0 f.last)) (Some (Need (next_peer f)))
    ∷ []

-- while it follows
abbrev pub following_rules : Following → ExecutorReport → List HeldLetter → List (Option Action)
following_rules f r held =
    -- 3. The next decree is a Rollback, or commits the first member of the chain.
    with_held HandInDecree (is_due_decree r) held
    -- 4. Nothing runs, the chain has room, and the order of the number after the tip is held.
    ∷ row_if (has_room_for_batch r) (with_held HandInOrder (is_next_order r) held)
    -- 5. The next decree is missing, and a later one is held.
    ∷ row_if (is_held (is_later_decree r) held && (not (is_held (is_next_decree r) held) && not (is_asked_already f r))) (Some (Ask (next_decree_place r)))
    -- 6. Nothing runs, and no order has led to the next decree for more than two ticks. The executor fetches from now on.
    ∷ row_if (not r.is_running && is_overdue f r) (with_held HandInDecree (is_next_decree r) held)
    ∷ []

abbrev pub rules_of : Following → ExecutorReport → List HeldLetter → List (Option Action)
rules_of f r held = if is_fetching r then fetching_rules f r held else following_rules f r held

-- what the first rule says that applies
abbrev pub first_of : List (Option Action) → Action
first_of [] = Wait
first_of (None ∷ rows) = first_of rows
first_of (Some action ∷ rows) = action

abbrev pub next_action : Following → ExecutorReport → List HeldLetter → Action
next_action f r held = first_of (rules_of f r held)

-- a letter is held there of which this is true
abbrev pub IsHeldAt : List HeldLetter → ℕ → (HeldLetter → Type 0) → Type 0
IsHeldAt held i P = IsSomeAnd (slice_get held i) P

-- none of these rules applies
abbrev pub NoneApplies : List (Option Action) → Type 0
NoneApplies [] = ⊤
NoneApplies (row ∷ rows) = (row ≡ None) × NoneApplies rows
