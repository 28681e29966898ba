use Rattle.std.proofs.Common.{length, arith, suc}
use Rattle.proto.proofs.SpellsLemmas.{spells_one, spells_some}
use Rattle.proto.proofs.laws.one_list_is_spelled.Goals as goal

pub returns-clause-some : goal.returns-clause-some
returns-clause-some c = λ bytes. spells_some (suc (length bytes)) bytes (omega arith)

pub returns-clause-one : goal.returns-clause-one
returns-clause-one c = spells_one
