use Rattle.dialect.proofs.QuietLemmas.{quiet_hides}
use Rattle.dialect.proofs.laws.a_quiet_meta_line_hides_what_is_expected.Goals as goal

pub returns : goal.returns
returns c = quiet_hides
