use Rattle.std.proofs.Common.{◌≡◌}
use Rattle.disk_tests.proofs.saves.save_all.Given as goal

abbrev pub invariant-loop-number : goal.invariant-loop-number
invariant-loop-number g l = l.rows.tables ≡ 2
