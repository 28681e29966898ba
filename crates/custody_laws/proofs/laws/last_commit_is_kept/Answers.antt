use Rattle.custody_laws.proofs.Custody.{last_commit_is_kept}
use Rattle.custody_laws.proofs.laws.last_commit_is_kept.Goals as goal

pub returns : goal.returns
returns c = last_commit_is_kept
