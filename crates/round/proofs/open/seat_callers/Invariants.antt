use Rattle.std.proofs.Common.{◌≡◌, ◌+◌, ◌++◌, [], length, map}
use Rattle.std.specs.Prelude.{vec_len}
use Rattle.std.specs.List.{range_with_len}
use Rattle.pages.specs.Page.{page_count}
use Rattle.round.specs.Tickets.{maker}
use Rattle.round.specs.Sittings.{seat_of}
use Rattle.round.proofs.open.seat_callers.Given as goal

abbrev pub invariant-loop-running : goal.invariant-loop-running
invariant-loop-running g l =
    (goal.iterator-loop-running g).can_next l.running-iterator
    × (goal.iterator-loop-running g).is_finite l.running-iterator
    × (l.master.table_id ≡ g.J.Room.table)
    × (l.master.me ≡ (maker (page_count + length l.yielded), []))
    × (vec_len l.seats ≡ length l.yielded)
    × (l.seats.items ≡ map (seat_of g.J.Room.callers g.J.Room.group) (range_with_len 0 (length l.yielded)))
    × (l.yielded ++ l.running-iterator.rest.items ≡ l.fn.lists.items)
