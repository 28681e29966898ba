use Rattle.dialect.proofs.RefusalLemmas.{refused_asks_nothing, unread_only_removes}
use Rattle.dialect.proofs.laws.a_refused_line_asks_nothing.Goals as goal

pub returns-clause-line : goal.returns-clause-line
returns-clause-line c = refused_asks_nothing

pub returns-clause-block : goal.returns-clause-block
returns-clause-block c = unread_only_removes
