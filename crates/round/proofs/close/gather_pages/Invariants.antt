use Rattle.std.proofs.Common.{◌≡◌, ◌++◌, length}
use Rattle.std.specs.Prelude.{vec_len}
use Rattle.pages.specs.Joined.{items_of}
use Rattle.round.specs.Orders.{IsAsBefore, AreHistories}
use Rattle.round.proofs.close.gather_pages.Given as goal

abbrev pub invariant-loop-lock : goal.invariant-loop-lock
invariant-loop-lock g l =
    (goal.iterator-loop-lock g).can_next l.lock-iterator
    × (goal.iterator-loop-lock g).is_finite l.lock-iterator
    × IsAsBefore g.J.Room.table l.initial.master l.master
    × AreHistories g.J.Room.base g.J.Room.opening 0 l.master.me.0.held (items_of l.pages.items)
    × (vec_len l.pages ≡ length l.yielded)
    × (l.yielded ++ l.lock-iterator.rest.items ≡ l.fn.locks.items)
