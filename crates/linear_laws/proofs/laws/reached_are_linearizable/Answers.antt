use Rattle.linear_laws.proofs.Plays.{reached_are_linearizable}
use Rattle.linear_laws.proofs.laws.reached_are_linearizable.Goals as goal

pub returns : goal.returns
returns c = reached_are_linearizable c.worlds_are_in_time.ensures
