use Rattle.std.proofs.Common.{◌≡◌, replicate}
use Rattle.pages.specs.Joined.{items_of}
use Rattle.pages.proofs.JoinedLemmas.{no_items}
use Rattle.pages.proofs.own_pages.empty_pages.Given as goal

abbrev pub invariant-loop-made : goal.invariant-loop-made
invariant-loop-made l = items_of l.pages.items ≡ replicate l.made no_items
