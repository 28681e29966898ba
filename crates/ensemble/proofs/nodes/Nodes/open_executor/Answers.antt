use Rattle.std.proofs.Common.{rules, inl, refl, subst}
use Rattle.hosts.specs.Host.{HostReopens}
use Rattle.events.specs.declared.event.Replica.TheVariants as replica
use Rattle.ensemble.specs.Nodes.{NodesView, HostMoves}
use Rattle.ensemble.specs.Calls.{HostPosts, IsReopened, IsReopenedAndPosts}
use Rattle.ensemble.proofs.Served.{letters_posted}
use Rattle.ensemble.proofs.nodes.Nodes.open_executor.Goals as goal

pub returns-clause-moves : goal.returns-clause-moves
returns-clause-moves c =
    let left : NodesView = record { u = c.self.inside.u; proxies = c.self.inside.proxies.items; executors = c.open_executor-sent.new.executors.items; verifiers = c.self.inside.verifiers.items; mail = c.post.new.mail.items } in
    inl (subst (λ (n : NodesView). HostMoves (λ h left sent. HostReopens n.u c.args.id h left sent) c.args.id n left) c.self.view_is (c.open_executor-sent.new.executors.items, c.open_executor-sent.result.items, c.post.new.mail.items, c.open_executor-sent.ensures, c.post.ensures.grows, refl))

pub returns-clause-opens : goal.returns-clause-opens
returns-clause-opens c =
    let s = c.self.inside in
    let left : NodesView = record { u = s.u; proxies = s.proxies.items; executors = c.open_executor-sent.new.executors.items; verifiers = s.verifiers.items; mail = c.post.new.mail.items } in
    subst (λ (n : NodesView). IsReopened (replica.Executor c.args.id) n left) c.self.view_is (record {
      here = λ le. (c.open_executor-sent.new.executors.items, c.open_executor-sent.result.items, c.post.new.mail.items, c.open_executor-sent.ensures, c.post.ensures.grows, refl);
      beyond = λ lt. let no : ⊥ = search rules in absurd no;
    })

pub returns-clause-posted : goal.returns-clause-posted
returns-clause-posted c = λ none.
    let s = c.self.inside in
    let before : NodesView = record { u = s.u; proxies = s.proxies.items; executors = s.executors.items; verifiers = s.verifiers.items; mail = s.mail.items } in
    let left : NodesView = record { u = s.u; proxies = s.proxies.items; executors = c.open_executor-sent.new.executors.items; verifiers = s.verifiers.items; mail = c.post.new.mail.items } in
    subst (λ (n : NodesView). IsReopenedAndPosts (replica.Executor c.args.id) n left) c.self.view_is (record {
      here = λ le. letters_posted (λ h x sent. HostReopens s.u c.args.id h x sent) c.args.id before c.open_executor-sent.new.executors.items c.open_executor-sent.result.items c.post.new.mail.items c.open_executor-sent.ensures (c.post.ensures.posted none.same none.below);
      beyond = λ lt. let no : ⊥ = search rules in absurd no;
    })
