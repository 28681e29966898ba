use Rattle.std.proofs.Common.{arith}
use Rattle.sessions.proofs.LimitLemmas.{rise_few}
use Rattle.sessions.proofs.entries.rise_to.Goals as goal

pub returns : goal.returns
returns c = rise_few c.args.entries.now c.args.last c.requires.rising c.requires.some c.requires.last (omega (arith, c.ranges.last.fits))
