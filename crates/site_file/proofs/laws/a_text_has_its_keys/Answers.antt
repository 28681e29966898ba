use Rattle.site_file.proofs.KeyTextLemmas.{refused_has_none, has_one}
use Rattle.site_file.proofs.laws.a_text_has_its_keys.Goals as goal

pub returns-clause-refused : goal.returns-clause-refused
returns-clause-refused c = refused_has_none

pub returns-clause-one : goal.returns-clause-one
returns-clause-one c = has_one
