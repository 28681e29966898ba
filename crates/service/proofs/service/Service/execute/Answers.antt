use Rattle.std.proofs.Common.{◌++◌, ◌∷◌, [], sym, subst}
use Rattle.ensemble.specs.Ensemble.{moment_entry}
use Rattle.service.specs.Service.{ServiceView, none_shown, assigned, IsPassedNow}
use Rattle.service.proofs.MomentLemmas.{worked_moments}
use Rattle.service.proofs.KeepLemmas.{worked_keeps, are_logged}
use Rattle.service.proofs.NodeLemmas.{size_keeps}
use Rattle.service.proofs.service.Service.execute.Goals as goal

pub invariant_of-self : goal.invariant_of-self
invariant_of-self g c =
    let s = c.self.inside in
    let v : ServiceView = record { connections = s.connections; asked = s.ensemble.asked; answered = s.ensemble.answered; order = s.ensemble.order; assignments = assigned s.assignments.items; waiting = s.pool; queue = s.queue.items; replicas = none_shown } in
    let now : IsPassedNow s.connections.passed c.args.moment = subst (λ (x : ServiceView). IsPassedNow x.connections.passed c.args.moment) (sym c.self.view_is) c.requires in (
      worked_keeps v c.work.new.self.asked c.work.new.self.answered c.work.new.self.order c.args.moment c.work.result.items c.self.invariant.0 c.work.ensures.asked c.work.ensures.answered c.work.ensures.order,
      worked_moments v c.work.new.self.asked c.work.new.self.answered c.work.new.self.order c.args.moment c.work.result.items c.self.invariant.1 c.work.ensures.answered c.work.ensures.order now,
      size_keeps s.u s.nodes.members s.ensemble.nodes c.work.new.self.nodes s.nodes.pauses.items c.self.invariant.2 c.work.ensures.size,
      c.self.invariant.3,
    )

pub returns-clause-logged : goal.returns-clause-logged
returns-clause-logged g c = are_logged c.work.result.items c.self.inside.ensemble.answered c.work.new.self.answered (c.self.inside.ensemble.order ++ moment_entry c.args.moment ∷ []) c.work.new.self.order c.work.ensures.answered c.work.ensures.order
