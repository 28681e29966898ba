use Rattle.site_file.proofs.OneLemmas.{says_same}
use Rattle.site_file.proofs.RefusedLemmas.{refused_says_none}
use Rattle.site_file.proofs.laws.a_text_says_one_site.Goals as goal

pub returns-clause-refused : goal.returns-clause-refused
returns-clause-refused c = refused_says_none

pub returns-clause-one : goal.returns-clause-one
returns-clause-one c = says_same
