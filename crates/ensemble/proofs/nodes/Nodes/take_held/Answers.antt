use Rattle.std.proofs.Common.{refl, subst}
use Rattle.hosts.specs.Due.{HostTakesDue}
use Rattle.ensemble.specs.Nodes.{NodesView, HostMoves, HostAdvances}
use Rattle.ensemble.proofs.nodes.Nodes.take_held.Goals as goal

pub returns-clause-moves : goal.returns-clause-moves
returns-clause-moves c =
    let left : NodesView = record { u = c.self.inside.u; proxies = c.self.inside.proxies.items; executors = c.take_held-has_taken.new.executors.items; verifiers = c.self.inside.verifiers.items; mail = c.post.new.mail.items } in
    subst (λ (n : NodesView). HostMoves (HostAdvances) c.args.id n left) c.self.view_is (c.take_held-has_taken.new.executors.items, c.take_held-has_taken.result.1.items, c.post.new.mail.items, c.take_held-has_taken.ensures.advances, c.post.ensures.grows, refl)

pub returns-clause-due : goal.returns-clause-due
returns-clause-due c =
    let left : NodesView = record { u = c.self.inside.u; proxies = c.self.inside.proxies.items; executors = c.take_held-has_taken.new.executors.items; verifiers = c.self.inside.verifiers.items; mail = c.post.new.mail.items } in
    subst (λ (n : NodesView). HostMoves (HostTakesDue) c.args.id n left) c.self.view_is (c.take_held-has_taken.new.executors.items, c.take_held-has_taken.result.1.items, c.post.new.mail.items, c.take_held-has_taken.ensures.due, c.post.ensures.grows, refl)
