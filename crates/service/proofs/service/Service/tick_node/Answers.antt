use Rattle.std.proofs.Common.{rules, ◌≡◌, ◌+◌, ◌*◌, Bool, true, false, refl, sym, ap, ◌∙◌, subst, arith}
use Rattle.events.specs.declared.event.Replica.{Replica}
use Rattle.ensemble.specs.Calls.{IsReopened}
use Rattle.ensemble.specs.Shown.{is_up_at}
use Rattle.service.specs.Service.{ServiceView, none_shown, assigned}
use Rattle.service.specs.Ticks.{replica_at, is_up_in, NodeTicks, OthersStay}
use Rattle.service.proofs.MomentLemmas.{same_moments}
use Rattle.service.proofs.KeepLemmas.{tended_keeps}
use Rattle.service.proofs.NodeLemmas.{node_here, size_keeps, ticks_keep, others_stay, same_stay, opened_here}
use Rattle.service.proofs.service.Service.tick_node.Goals as goal

pub invariant_of-self : goal.invariant_of-self
invariant_of-self c =
    let s = c.self.inside in
    let e = c.restart-is_back.new.self in
    let v : ServiceView = record { connections = s.connections; asked = s.ensemble.asked; answered = s.ensemble.answered; order = s.ensemble.order; assignments = assigned s.assignments.items; waiting = s.pool; queue = s.queue.items; replicas = none_shown } in
    let paused = ticks_keep s.u s.nodes.members c.tick.new.self.members s.ensemble.nodes c.args.at c.is_up-is_up.result c.tick.result s.nodes.pauses.items c.tick.new.self.pauses.items c.self.invariant.2 c.tick.ensures.members c.tick.ensures.ticks in (
      tended_keeps v e.asked e.answered e.order s.pool c.self.invariant.0 c.restart-is_back.ensures.logs.asked c.restart-is_back.ensures.logs.answered c.restart-is_back.ensures.logs.order (λ i a w. w),
      same_moments v (record v { asked = e.asked; answered = e.answered; order = e.order }) c.self.invariant.1 refl refl c.restart-is_back.ensures.logs.order refl c.restart-is_back.ensures.logs.answered,
      size_keeps s.u c.tick.new.self.members s.ensemble.nodes e.nodes c.tick.new.self.pauses.items paused c.restart-is_back.ensures.size,
      c.self.invariant.3,
    )

pub invariant_of-self-else-tick : goal.invariant_of-self-else-tick
invariant_of-self-else-tick c =
    let s = c.self.inside in (
      c.self.invariant.0,
      c.self.invariant.1,
      ticks_keep s.u s.nodes.members c.tick.new.self.members s.ensemble.nodes c.args.at c.is_up-is_up.result c.tick.result s.nodes.pauses.items c.tick.new.self.pauses.items c.self.invariant.2 c.tick.ensures.members c.tick.ensures.ticks,
      c.self.invariant.3,
    )

pub returns-then-tick-clause-ticks : goal.returns-then-tick-clause-ticks
returns-then-tick-clause-ticks c =
    let s = c.self.inside in
    let now = ap (λ (v : ServiceView). v.replicas.refused) c.self.view_is in
    let here : c.replica-replica.result ≡ replica_at (2 * s.ensemble.nodes.u + 1) c.args.at = c.replica-replica.ensures ∙ node_here s.u s.nodes.members s.ensemble.nodes s.nodes.pauses.items c.args.at c.self.invariant.2 in
    let found : c.is_up-is_up.result ≡ is_up_in s.ensemble.nodes c.args.at = c.is_up-is_up.ensures ∙ ap (is_up_at s.ensemble.nodes) here in
    let due : c.tick.result ≡ true = search rules in (
      true,
      subst (λ (v : ServiceView). NodeTicks c.args.at (is_up_in v.replicas.ensemble.nodes c.args.at) v.replicas.pauses c.tick.new.self.pauses.items true) c.self.view_is
          (subst (λ (z : Bool × Bool). NodeTicks c.args.at z.0 s.nodes.pauses.items c.tick.new.self.pauses.items z.1) (λ i. (found i, due i)) c.tick.ensures.ticks),
      λ same below. opened_here c.args.at c.replica-replica.result s.ensemble.nodes c.restart-is_back.new.self.nodes c.restart-is_back.result here c.restart-is_back.ensures.size c.restart-is_back.ensures.up (c.restart-is_back.ensures.opened (omega (arith, same, now)) (omega (arith, below, now))),
    )

pub returns-then-tick-clause-others : goal.returns-then-tick-clause-others
returns-then-tick-clause-others c =
    let s = c.self.inside in
    let n = c.restart-is_back.new.self.nodes in
    let here : c.replica-replica.result ≡ replica_at (2 * s.ensemble.nodes.u + 1) c.args.at = c.replica-replica.ensures ∙ node_here s.u s.nodes.members s.ensemble.nodes s.nodes.pauses.items c.args.at c.self.invariant.2 in
    subst (λ (v : ServiceView). OthersStay c.args.at v.replicas.ensemble.nodes n) c.self.view_is
    (others_stay c.args.at s.ensemble.nodes n c.restart-is_back.ensures.size (subst (λ (r : Replica). IsReopened r s.ensemble.nodes n) here c.restart-is_back.ensures.only))

pub returns-else-tick-clause-ticks : goal.returns-else-tick-clause-ticks
returns-else-tick-clause-ticks c =
    let s = c.self.inside in
    let here : c.replica-replica.result ≡ replica_at (2 * s.ensemble.nodes.u + 1) c.args.at = c.replica-replica.ensures ∙ node_here s.u s.nodes.members s.ensemble.nodes s.nodes.pauses.items c.args.at c.self.invariant.2 in
    let found : c.is_up-is_up.result ≡ is_up_in s.ensemble.nodes c.args.at = c.is_up-is_up.ensures ∙ ap (is_up_at s.ensemble.nodes) here in
    let due : c.tick.result ≡ false = search rules in (
      false,
      subst (λ (v : ServiceView). NodeTicks c.args.at (is_up_in v.replicas.ensemble.nodes c.args.at) v.replicas.pauses c.tick.new.self.pauses.items false) c.self.view_is
          (subst (λ (z : Bool × Bool). NodeTicks c.args.at z.0 s.nodes.pauses.items c.tick.new.self.pauses.items z.1) (λ i. (found i, due i)) c.tick.ensures.ticks),
      ap (λ (v : ServiceView). v.replicas.ensemble.nodes) c.self.view_is,
    )

pub returns-else-tick-clause-others : goal.returns-else-tick-clause-others
returns-else-tick-clause-others c = same_stay c.args.at c.args.self.now.replicas.ensemble.nodes c.self.inside.ensemble.nodes (ap (λ (v : ServiceView). v.replicas.ensemble.nodes) c.self.view_is)
