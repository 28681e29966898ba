use Rattle.pages.proofs.StillLemmas.{AreAdded}
use Rattle.pages.proofs.group.GroupPages.add_due.Given as goal

-- the pages so far are in the set, or nothing is due in them
abbrev pub invariant-loop-index : goal.invariant-loop-index
invariant-loop-index l = AreAdded l.self l.moment l.first l.index l.fn.due l.due
