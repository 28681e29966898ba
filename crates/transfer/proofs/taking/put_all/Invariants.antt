use Rattle.std.specs.Prelude.{length}
use Rattle.pages.specs.Joined.{items_of}
use Rattle.transfer.proofs.JoinLemmas.{ArePut}
use Rattle.transfer.proofs.taking.put_all.Given as goal

abbrev pub invariant-loop-page : goal.invariant-loop-page
invariant-loop-page l = ArePut (items_of l.fn.own.items) l.fn.came.items l.came.items (items_of l.pages.items)

abbrev pub decreases-loop-page : goal.decreases-loop-page
decreases-loop-page l = length l.came.items
