use Rattle.std.proofs.Common.{◌≡◌, take}
use Rattle.mixer.specs.Groups.{group_count}
use Rattle.mixer.proofs.groups.group_count.Given as goal

abbrev pub invariant-loop-number : goal.invariant-loop-number
invariant-loop-number l = l.count ≡ group_count (take l.number-index l.numbers)
