use Rattle.item_rows.proofs.ChangeLemmas.{folded}
use Rattle.item_rows.proofs.laws.rows_may_follow_late.Goals as goal

pub returns : goal.returns
returns g c = folded
