use Rattle.std.proofs.Common.{refl}
use Rattle.play_samples.proofs.rows.undone_is_made_again.Goals as goal

pub returns-clause-chosen : goal.returns-clause-chosen
returns-clause-chosen c = refl

pub returns-clause-round : goal.returns-clause-round
returns-clause-round c = refl
