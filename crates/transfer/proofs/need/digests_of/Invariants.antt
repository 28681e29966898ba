use Rattle.std.specs.Prelude.{◌≡◌, map}
use Rattle.std.specs.List.{range_with_len}
use Rattle.pages.specs.Page.{page_digest_in}
use Rattle.transfer.proofs.need.digests_of.Given as goal

-- the digests of the pages so far
abbrev pub invariant-loop-number : goal.invariant-loop-number
invariant-loop-number l = l.digests.items ≡ map (page_digest_in l.pages.layout l.pages.items) (range_with_len 0 l.number)
