use Rattle.std.proofs.Common.{sym, subst, refl, ◌+◌}
use Rattle.folders.specs.Folders.{IsNewestOf}
use Rattle.folders.proofs.NewestLemmas.{step}
use Rattle.folders.proofs.majority.newest_read.Goals as goal

pub loop-at-preserved : goal.loop-at-preserved
loop-at-preserved c = subst (IsNewestOf c.args.stamps.now (c.loop-at.at + 1)) (sym c.later-newest.ensures) (step c.args.stamps.now c.loop-at.at c.loop-at.newest _ refl c.loop-at.invariant)
