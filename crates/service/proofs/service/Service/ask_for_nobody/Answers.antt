use Rattle.std.proofs.Common.{refl}
use Rattle.service.specs.Service.{ServiceView, none_shown, assigned}
use Rattle.service.proofs.MomentLemmas.{same_moments}
use Rattle.service.proofs.KeepLemmas.{tended_keeps}
use Rattle.service.proofs.NodeLemmas.{size_keeps}
use Rattle.service.proofs.service.Service.ask_for_nobody.Goals as goal

pub invariant_of-self : goal.invariant_of-self
invariant_of-self c =
    let s = c.self.inside in
    let e = c.again.new.self in
    let v : ServiceView = record { connections = s.connections; asked = s.ensemble.asked; answered = s.ensemble.answered; order = s.ensemble.order; assignments = assigned s.assignments.items; waiting = s.pool; queue = s.queue.items; replicas = none_shown } in (
      tended_keeps v e.asked e.answered e.order s.pool c.self.invariant.0 c.again.ensures.logs.asked c.again.ensures.logs.answered c.again.ensures.logs.order (λ i a w. w),
      same_moments v (record v { asked = e.asked; answered = e.answered; order = e.order }) c.self.invariant.1 refl refl c.again.ensures.logs.order refl c.again.ensures.logs.answered,
      size_keeps s.u s.nodes.members s.ensemble.nodes e.nodes s.nodes.pauses.items c.self.invariant.2 c.again.ensures.size,
      c.self.invariant.3,
    )
