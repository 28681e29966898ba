use Rattle.std.proofs.Common.{sym, subst, ◌<◌, ◌+◌, ◌*◌}
use Rattle.ensemble.specs.Nodes.{NodesView, IsPosted}
use Rattle.ensemble.proofs.Sending.{posted_to_one}
use Rattle.ensemble.proofs.nodes.Nodes.send_to.Goals as goal

pub returns-in-Ok-clause-posted : goal.returns-in-Ok-clause-posted
returns-in-Ok-clause-posted c =
    let s = c.self.inside in
    let before : NodesView = record { u = s.u; proxies = s.proxies.items; executors = s.executors.items; verifiers = s.verifiers.items; mail = s.mail.items } in
    let left : NodesView = record { u = s.u; proxies = s.proxies.items; executors = s.executors.items; verifiers = s.verifiers.items; mail = c.post.new.mail.items } in
    subst (λ (n : NodesView). IsPosted n c.args.client c.args.request left) c.self.view_is
    (posted_to_one before c.args.client c.args.to c.args.request c.in-Ok.letters.items c.post.new.mail.items (subst (λ (n : NodesView). c.args.to < 2 * n.u + 1) (sym c.self.view_is) c.requires) c.in-Ok.ensures c.post.ensures.grows)
