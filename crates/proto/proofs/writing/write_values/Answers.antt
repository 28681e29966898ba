use Rattle.proto.proofs.GrowthLemmas.{grows_twice}
use Rattle.proto.proofs.writing.write_values.Goals as goal

pub returns-in_err-write_value-clause-grows : goal.returns-in_err-write_value-clause-grows
returns-in_err-write_value-clause-grows c = grows_twice _ _ _ c.loop-one.invariant.grows c.write_value.ensures.grows
