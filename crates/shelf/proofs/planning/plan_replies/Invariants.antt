use Rattle.std.proofs.Common.{◌≡◌, ◌++◌, map, take}
use Rattle.shelf.specs.Rows.{change_in, row_of_change, row_of_reply}
use Rattle.shelf.proofs.planning.plan_replies.Given as goal

abbrev pub invariant-loop-one : goal.invariant-loop-one
invariant-loop-one l = l.out.items ≡ l.fn.out.items ++ map (λ r. change_in 3 (row_of_reply r)) (take l.one-index l.replies)
