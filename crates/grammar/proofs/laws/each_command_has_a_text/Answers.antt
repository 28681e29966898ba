use Rattle.grammar.proofs.ProfileLemmas.{spelled_has_text}
use Rattle.grammar.proofs.laws.each_command_has_a_text.Goals as goal

pub returns : goal.returns
returns c = spelled_has_text
