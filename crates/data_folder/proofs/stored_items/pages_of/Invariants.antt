use Rattle.std.proofs.Common.{◌≡◌, length}
use Rattle.pages.specs.Joined.{AreOwn, items_of}
use Rattle.data_folder.proofs.stored_items.pages_of.Given as goal

-- the pages so far are there, each of its own keys alone
abbrev pub invariant-loop-number : goal.invariant-loop-number
invariant-loop-number l = (length (items_of l.pages.items) ≡ l.number) × AreOwn 0 (items_of l.pages.items)
