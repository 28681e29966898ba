use Rattle.std.proofs.Common.{refl, subst}
use Rattle.hosts.specs.Host.{HostCollects}
use Rattle.ensemble.specs.Nodes.{NodesView, HostMoves}
use Rattle.ensemble.specs.Calls.{HostPosts}
use Rattle.ensemble.proofs.Served.{letters_posted}
use Rattle.ensemble.proofs.nodes.Nodes.collect.Goals as goal

pub returns-clause-moves : goal.returns-clause-moves
returns-clause-moves c =
    let left : NodesView = record { u = c.self.inside.u; proxies = c.self.inside.proxies.items; executors = c.collect-sent.new.executors.items; verifiers = c.self.inside.verifiers.items; mail = c.post.new.mail.items } in
    subst (λ (n : NodesView). HostMoves (HostCollects) c.args.id n left) c.self.view_is (c.collect-sent.new.executors.items, c.collect-sent.result.items, c.post.new.mail.items, c.collect-sent.ensures, c.post.ensures.grows, refl)

pub returns-clause-posted : goal.returns-clause-posted
returns-clause-posted c = λ none.
    let s = c.self.inside in
    let before : NodesView = record { u = s.u; proxies = s.proxies.items; executors = s.executors.items; verifiers = s.verifiers.items; mail = s.mail.items } in
    let left : NodesView = record { u = s.u; proxies = s.proxies.items; executors = c.collect-sent.new.executors.items; verifiers = s.verifiers.items; mail = c.post.new.mail.items } in
    subst (λ (n : NodesView). HostPosts HostCollects c.args.id n left) c.self.view_is
    (letters_posted HostCollects c.args.id before c.collect-sent.new.executors.items c.collect-sent.result.items c.post.new.mail.items c.collect-sent.ensures (c.post.ensures.posted none.same none.below))
