use Rattle.std.proofs.Common.{◌∙◌}
use Rattle.ensemble.proofs.Moments.{now_stays}
use Rattle.ensemble.proofs.ensemble.Ensemble.go_on.Goals as goal

pub cut-requires : goal.cut-requires
cut-requires g c =
    now_stays c.args.self.now.order c.run_jobs.new.self.order c.deliver_timed.ensures.answered.added c.args.moment
    (c.run_jobs.ensures.logs.order ∙ (c.take_orders.ensures.logs.order ∙ c.deliver_timed.ensures.answered.ordered)) c.requires

pub returns-then-run_jobs-clause-waits : goal.returns-then-run_jobs-clause-waits
returns-then-run_jobs-clause-waits g c = λ before. c.run_jobs.ensures.waits (c.take_orders.ensures.waits (c.deliver_timed.ensures.waits before))

pub returns-clause-waits : goal.returns-clause-waits
returns-clause-waits g c = λ before. c.cut.ensures.waits (c.run_jobs.ensures.waits (c.take_orders.ensures.waits (c.deliver_timed.ensures.waits before)))
