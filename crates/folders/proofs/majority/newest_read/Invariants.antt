use Rattle.folders.specs.Folders.{IsNewestOf}
use Rattle.folders.proofs.majority.newest_read.Given as goal

abbrev pub invariant-loop-at : goal.invariant-loop-at
invariant-loop-at l = IsNewestOf l.stamps l.at l.newest
