use Rattle.std.proofs.Common.{◌≡◌}
use Rattle.data_folders.proofs.opening.renew_each.Given as goal

abbrev pub invariant-loop-trouble : goal.invariant-loop-trouble
invariant-loop-trouble l = l.opened.finds ≡ l.initial.opened.finds
