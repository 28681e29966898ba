use Rattle.saved_laws.proofs.BehindLemmas.{moment_more}
use Rattle.saved_laws.proofs.laws.hearing_is_behind.Goals as goal

pub returns : goal.returns
returns g c = λ begun saver moments left now behind. moment_more g.S.Save.is_text (g.S.Save.may_find begun) (g.S.Save.may_find saver) moments left now behind
