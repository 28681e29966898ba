use Rattle.std.proofs.Common.{◌≡◌, map}
use Rattle.std.specs.List.{range_with_len}
use Rattle.pages.specs.Joined.{items_of}
use Rattle.pages.specs.Old.{page_over_old}
use Rattle.pages.proofs.old.pages_over.Given as goal

abbrev pub invariant-loop-number : goal.invariant-loop-number
invariant-loop-number l = items_of l.pages.items ≡ map (page_over_old (items_of l.before.items) l.given) (range_with_len 0 l.number)
