use Rattle.std.proofs.Common.{◌≡◌, ◌++◌, drop}
use Rattle.std.specs.List.{zip}
use Rattle.mixer.specs.Groups.{members, tasks_from}
use Rattle.mixer.proofs.groups.group_at.Given as goal

abbrev pub invariant-loop-i : goal.invariant-loop-i
invariant-loop-i l = l.tasks.items ++ members l.number (zip (drop l.i l.numbers) (tasks_from l.i (drop l.i l.requests))) ≡ members l.number (zip l.numbers (tasks_from 0 l.requests))
