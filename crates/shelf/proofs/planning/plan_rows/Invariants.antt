use Rattle.std.proofs.Common.{◌≡◌, ◌++◌, map, take}
use Rattle.shelf.specs.Rows.{change_in, row_of_change, row_of_reply}
use Rattle.shelf.proofs.planning.plan_rows.Given as goal

abbrev pub invariant-loop-one : goal.invariant-loop-one
invariant-loop-one l = l.out.items ≡ l.fn.out.items ++ map (λ c. change_in 0 (row_of_change c)) (take l.one-index l.row_items)
