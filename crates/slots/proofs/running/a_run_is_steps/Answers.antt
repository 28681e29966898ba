use Rattle.slots.proofs.RunLemmas.{run_is_steps}
use Rattle.slots.proofs.running.a_run_is_steps.Goals as goal

pub returns : goal.returns
returns c = run_is_steps c.a_run_is_played.ensures
