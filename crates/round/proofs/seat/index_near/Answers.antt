use Rattle.round.proofs.Seats.{at_is}
use Rattle.round.proofs.seat.index_near.Goals as goal

pub returns : goal.returns
returns c = let is = at_is c.args.running.now c.args.place c.index_at.result c.index_at.ensures in record { some = is.0; none = is.1 }
