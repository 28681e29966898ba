use Rattle.grammar.proofs.ReadLemmas.{more_spelled, more_asked}
use Rattle.grammar.proofs.laws.longer_bytes_ask_more.Goals as goal

pub returns-clause-turns : goal.returns-clause-turns
returns-clause-turns c = more_spelled

pub returns-clause-commands : goal.returns-clause-commands
returns-clause-commands c = more_asked
