use Rattle.std.proofs.Common.{◌≡◌, take}
use Rattle.pages.proofs.kept.shared.Given as goal

-- those so far were copied
abbrev pub invariant-loop-entry : goal.invariant-loop-entry
invariant-loop-entry l = l.copies.items ≡ take l.entry-index l.entries
