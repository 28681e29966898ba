use Rattle.std.proofs.Common.{subst, sym}
use Rattle.ensemble.specs.Ensemble.{EnsembleView, Answers}
use Rattle.ensemble.proofs.Logs.{more_came}
use Rattle.ensemble.proofs.ensemble.Ensemble.deliver_timed.Goals as goal

pub returns-clause-answered : goal.returns-clause-answered
returns-clause-answered g c =
    subst (λ (v : EnsembleView). Answers c.args.self.now.answered c.args.self.now.order c.args.answers.now.items v.answered v.order c.deliver_all-2.new.answers.items) (sym c.self-2.view_is)
    (more_came _ _ _ _ _ _ _ _ _ c.deliver_all.ensures.answered
    (subst (λ (v : EnsembleView). Answers v.answered v.order c.deliver_all.new.answers.items c.deliver_all-2.new.self.answered c.deliver_all-2.new.self.order c.deliver_all-2.new.answers.items) c.self.view_is c.deliver_all-2.ensures.answered))
