-- What a member remembers of what it did with what it holds.
use Rattle.std.specs.Prelude.{ℕ, ◌+◌, ◌*◌, ◌==◌, ◌&&◌, Bool, not, min, List, if◌then◌else◌}
use Rattle.following.specs.declared.action.Action.{Action}
use Rattle.following.specs.declared.action.Action.TheVariants.{HandInOrder, HandInDecree, HandInParcel, DropParcel, Ask, Need, Wait}
use Rattle.following.specs.declared.letter.HeldLetter.{HeldLetter}
use Rattle.following.specs.declared.report.ExecutorReport.{ExecutorReport}
use Rattle.following.specs.declared.following.Following.{Following}
use Rattle.following.specs.Letters.{is_fetching, has_room_for_batch, next_decree_place, is_next_decree, is_due_decree, is_next_order}
use Rattle.following.specs.Rules.{is_held, next_action}

-- nothing was asked for yet, by this executor of 2u + 1
abbrev pub following_from : ℕ → ℕ → Following
following_from u id = record { id = id; last = 2 * u; peer = id; quiet = 255; asked = 0; asked_ticks = 255; stuck = 0; stuck_ticks = 0 }

-- a count of ticks, in 8 bits
abbrev pub next_tick : ℕ → ℕ
next_tick ticks = min (ticks + 1) 255

abbrev pub with_next_tick : Following → Following
with_next_tick f = record f { quiet = next_tick f.quiet; asked_ticks = next_tick f.asked_ticks; stuck_ticks = next_tick f.stuck_ticks }

-- what left is noted
abbrev pub with_action : Following → Action → Following
with_action f (HandInOrder i) = f
with_action f (HandInDecree i) = f
with_action f (HandInParcel i) = f
with_action f (DropParcel i) = f
with_action f (Ask place) = record f { asked = place; asked_ticks = 0 }
with_action f (Need peer) = record f { peer = peer; quiet = 0 }
with_action f Wait = f

-- the next decree is held, and nothing leads to it: no batch runs, the chain's first member is not of it, and the next order is not held
abbrev pub is_stuck : ExecutorReport → List HeldLetter → Bool
is_stuck r held = (((not (is_fetching r) && not r.is_running) && is_held (is_next_decree r) held) && not (is_held (is_due_decree r) held)) && not (has_room_for_batch r && is_held (is_next_order r) held)

-- since when it is stuck at a place is noted
abbrev pub with_stuck : Following → ExecutorReport → List HeldLetter → Following
with_stuck f r held = if is_stuck r held then (if f.stuck == next_decree_place r then f else record f { stuck = next_decree_place r; stuck_ticks = 0 }) else record f { stuck = 0; stuck_ticks = 0 }

abbrev pub after_next : Following → ExecutorReport → List HeldLetter → Following
after_next f r held = with_stuck (with_action f (next_action f r held)) r held
