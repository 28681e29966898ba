use Rattle.std.proofs.Common.{◌≡◌, ◌%◌, ◌++◌, length, map}
use Rattle.round.specs.Sittings.{lists_of}
use Rattle.round.proofs.open.deal.Given as goal

abbrev pub invariant-loop-task : goal.invariant-loop-task
invariant-loop-task l =
    (goal.iterator-loop-task).can_next l.task-iterator
    × (goal.iterator-loop-task).is_finite l.task-iterator
    × (l.caller ≡ length l.yielded % l.callers)
    × (map (λ v. v.items) l.lists.items ≡ lists_of l.callers l.yielded)
    × (l.yielded ++ l.task-iterator.rest.items ≡ l.fn.group.items)
