use Rattle.linear_laws.proofs.Plays.{plays_are_linearizable}
use Rattle.linear_laws.proofs.laws.plays_are_linearizable.Goals as goal

pub returns : goal.returns
returns c = plays_are_linearizable
