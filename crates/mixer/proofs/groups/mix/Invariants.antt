use Rattle.std.proofs.Common.{◌≡◌, map}
use Rattle.std.specs.List.{zip, range_with_len}
use Rattle.mixer.specs.Groups.{members, numbers_of, tasks_from}
use Rattle.mixer.proofs.groups.mix.Given as goal

abbrev pub invariant-loop-number : goal.invariant-loop-number
invariant-loop-number l = l.groups.items ≡ map (λ number. members number (zip (numbers_of l.requests) (tasks_from 0 l.requests))) (range_with_len 0 l.number)
