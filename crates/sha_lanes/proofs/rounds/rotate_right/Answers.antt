use Rattle.sha_lanes.proofs.LaneLemmas.{shifts_rotate}
use Rattle.sha_lanes.proofs.rounds.rotate_right.Goals as goal

pub returns : goal.returns
returns c = shifts_rotate c.args.k c.requires.low c.requires.high c.args.x c.fits-x.0
