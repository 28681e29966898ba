use Rattle.saved_laws.proofs.BehindLemmas.{work_stays}
use Rattle.saved_laws.proofs.laws.work_is_behind.Goals as goal

pub returns : goal.returns
returns g c = λ begun before saver moments left held out rest seconds v now here behind hands.
    work_stays g.S.Save.is_text (g.S.Save.may_find begun) (g.S.Save.may_find before) (g.S.Save.may_find saver) moments left held out rest v now here behind hands.releases
