use Rattle.ensemble.proofs.Collecting.{collected_waits, have_run}
use Rattle.ensemble.proofs.ensemble.Ensemble.run_jobs.Goals as goal

pub returns-clause-waits : goal.returns-clause-waits
returns-clause-waits g c = λ before. collected_waits c.run_timed.new.self.nodes c.collect_all.new.self.nodes c.collect_all.ensures.collected c.collect_all.ensures.size

pub returns-clause-ran : goal.returns-clause-ran
returns-clause-ran g c = λ yes.
    have_run c.args.self.now.refused c.run_timed.new.self.refused c.collect_all.new.self.refused c.args.self.now.nodes c.run_timed.new.self.nodes c.collect_all.new.self.nodes c.run_timed.ensures.uncounted c.run_timed.ensures.ran c.collect_all.ensures.collected c.collect_all.ensures.posted
