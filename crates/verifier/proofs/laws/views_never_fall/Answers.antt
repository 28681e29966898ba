use Rattle.verifier.proofs.StepLemmas.{view_never_falls}
use Rattle.verifier.proofs.laws.views_never_fall.Goals as goal

pub returns : goal.returns
returns c = view_never_falls
