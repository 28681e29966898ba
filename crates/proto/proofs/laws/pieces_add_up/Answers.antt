use Rattle.proto.proofs.SpellsLemmas.{reads_on, reads_closed, reads_spells}
use Rattle.proto.proofs.laws.pieces_add_up.Goals as goal

pub returns-clause-more : goal.returns-clause-more
returns-clause-more c = reads_on

pub returns-clause-closed : goal.returns-clause-closed
returns-clause-closed c = reads_closed

pub returns-clause-spelled : goal.returns-clause-spelled
returns-clause-spelled c = reads_spells
