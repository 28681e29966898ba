use Rattle.dialect.proofs.NoreplyLemmas.{noreply_gives_nothing}
use Rattle.dialect.proofs.laws.a_noreply_line_gives_no_bytes.Goals as goal

pub returns : goal.returns
returns c = noreply_gives_nothing
