use Rattle.site_laws.proofs.LifeLemmas.{lives_are_ensemble, lives_are_shown}
use Rattle.site_laws.proofs.lives.a_site_of_lives_is_an_ensemble.Goals as goal

pub returns-clause-ensemble : goal.returns-clause-ensemble
returns-clause-ensemble c = lives_are_ensemble c.a_run_is_steps.ensures c.args.alloc

pub returns-clause-shown : goal.returns-clause-shown
returns-clause-shown c = lives_are_shown c.a_run_is_steps.ensures c.args.alloc
