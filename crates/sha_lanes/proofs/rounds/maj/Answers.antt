use Rattle.sha_lanes.proofs.LaneLemmas.{majority_each}
use Rattle.sha_lanes.proofs.rounds.maj.Goals as goal

pub returns : goal.returns
returns c = majority_each c.args.x c.fits-x.0 c.args.y c.fits-y.0 c.args.z c.fits-z.0
