use Rattle.std.proofs.Common.{◌≡◌, ◌++◌, List, map}
use Rattle.std.specs.List.{AllByRecursion}
use Rattle.round.specs.declared.rule.Held.{Held}
use Rattle.round.specs.Sittings.{running_in, IsSitting}
use Rattle.round.specs.Orders.{IsAsBefore, AreOf}
use Rattle.round.proofs.close.gather_seats.Given as goal

abbrev pub invariant-loop-seat : goal.invariant-loop-seat
invariant-loop-seat g l =
    (goal.iterator-loop-seat g).can_next l.seat-iterator
    × (goal.iterator-loop-seat g).is_finite l.seat-iterator
    × IsAsBefore g.J.Room.table l.initial.master l.master
    × (l.yielded ++ l.seat-iterator.rest.items ≡ l.fn.seats.items)
    × ((hs : List Held) × (l.master.me.0.held ≡ l.initial.master.me.0.held ++ hs) × AreOf hs l.yielded)
    × AllByRecursion (IsSitting g.J.Room.group g.J.Room.callers) l.yielded
    × (map (λ v. v.items) l.lists.items ≡ map (λ s. map (running_in s.log) s.tasks) l.yielded)
