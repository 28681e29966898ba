use Rattle.std.proofs.Common.{◌≡◌, ◌≤◌, length, drop}
use Rattle.std.specs.List.{zip}
use Rattle.mixer.specs.Groups.{commands_of, number_after}
use Rattle.mixer.proofs.GroupLemmas.{number_from}
use Rattle.mixer.proofs.groups.number_after.Given as goal

abbrev pub invariant-loop-i : goal.invariant-loop-i
invariant-loop-i l =
    (number_from l.most (zip (commands_of (drop l.i l.earlier)) (drop l.i l.numbers)) l.command ≡ number_after (zip (commands_of l.earlier) l.numbers) l.command)
    × (l.most ≤ length l.numbers)
