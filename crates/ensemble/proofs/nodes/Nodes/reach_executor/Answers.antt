use Rattle.std.proofs.Common.{refl, subst}
use Rattle.hosts.specs.Host.{HostTakes}
use Rattle.ensemble.specs.Nodes.{NodesView, HostMoves}
use Rattle.ensemble.proofs.nodes.Nodes.reach_executor.Goals as goal

pub returns-clause-moves : goal.returns-clause-moves
returns-clause-moves c =
    let left : NodesView = record { u = c.self.inside.u; proxies = c.self.inside.proxies.items; executors = c.to_executor-sent.new.executors.items; verifiers = c.self.inside.verifiers.items; mail = c.post.new.mail.items } in
    subst (λ (n : NodesView). HostMoves (λ h left sent. HostTakes h c.args.letter left sent) c.args.id n left) c.self.view_is (c.to_executor-sent.new.executors.items, c.to_executor-sent.result.items, c.post.new.mail.items, c.to_executor-sent.ensures.takes, c.post.ensures.grows, refl)
