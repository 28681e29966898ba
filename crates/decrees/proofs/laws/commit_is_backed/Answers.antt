use Rattle.decrees.proofs.VerdictLemmas.{commit_is_backed}
use Rattle.decrees.proofs.laws.commit_is_backed.Goals as goal

pub returns : goal.returns
returns c = commit_is_backed
