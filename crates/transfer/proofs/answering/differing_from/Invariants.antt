use Rattle.std.specs.Prelude.{◌≡◌, flat_map}
use Rattle.std.specs.List.{range_with_len}
use Rattle.transfer.specs.Parcel.{differing}
use Rattle.transfer.proofs.answering.differing_from.Given as goal

-- those of the pages so far that differ
abbrev pub invariant-loop-number : goal.invariant-loop-number
invariant-loop-number l = l.pages.items ≡ flat_map (differing l.state l.need) (range_with_len 0 l.number)
