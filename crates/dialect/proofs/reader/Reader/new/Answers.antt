use Rattle.std.proofs.Common.{[], sym, subst}
use Rattle.dialect.specs.State.{State}
use Rattle.dialect.specs.Grammar.{HasRead}
use Rattle.dialect.proofs.SpellsLemmas.{none_read}
use Rattle.dialect.proofs.reader.Reader.new.Goals as goal

pub returns-clause-spells : goal.returns-clause-spells
returns-clause-spells c = subst (λ (s : State). HasRead [] [] s) (sym c.new.ensures) none_read
