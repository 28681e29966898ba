use Rattle.std.proofs.Common.{refl}
use Rattle.play_samples.proofs.rows.accepted_is_chosen_later.Goals as goal

pub returns-clause-before : goal.returns-clause-before
returns-clause-before c = refl

pub returns-clause-chosen : goal.returns-clause-chosen
returns-clause-chosen c = refl
