use Rattle.sha_lanes.proofs.LaneLemmas.{chooses_each}
use Rattle.sha_lanes.proofs.rounds.ch.Goals as goal

pub returns : goal.returns
returns c = chooses_each c.args.x c.fits-x.0 c.args.y c.fits-y.0 c.args.z c.fits-z.0
