use Rattle.grammar.proofs.FullLemmas.{refused_stores_nothing}
use Rattle.grammar.proofs.laws.a_full_server_stores_nothing.Goals as goal

pub returns : goal.returns
returns c = refused_stores_nothing
