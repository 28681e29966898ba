use Rattle.dialect.proofs.SpellsLemmas.{spells_longer}
use Rattle.dialect.proofs.laws.longer_bytes_spell_more.Goals as goal

pub returns : goal.returns
returns c = spells_longer
