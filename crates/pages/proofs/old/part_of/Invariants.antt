use Rattle.std.proofs.Common.{◌≡◌, take}
use Rattle.std.specs.Prelude.{◌==◌, filter}
use Rattle.pages.specs.Page.{page_number}
use Rattle.pages.proofs.old.part_of.Given as goal

abbrev pub invariant-loop-entry : goal.invariant-loop-entry
invariant-loop-entry l = l.part.items ≡ filter (λ e. page_number e.0 == l.number) (take l.entry-index l.entries)
