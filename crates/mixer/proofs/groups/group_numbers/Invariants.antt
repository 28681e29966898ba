use Rattle.std.proofs.Common.{◌≡◌, ◌<◌, ◌++◌, All, length, take, drop}
use Rattle.std.specs.List.{zip}
use Rattle.mixer.specs.Groups.{commands_of, numbers_from, numbers_of}
use Rattle.mixer.proofs.groups.group_numbers.Given as goal

abbrev pub invariant-loop-i : goal.invariant-loop-i
invariant-loop-i l =
    (length l.numbers.items ≡ l.i)
    × All (λ n. n < l.i) l.numbers.items
    × (l.numbers.items ++ numbers_from (zip (commands_of (take l.i l.requests)) l.numbers.items) (commands_of (drop l.i l.requests)) ≡ numbers_of l.requests)
