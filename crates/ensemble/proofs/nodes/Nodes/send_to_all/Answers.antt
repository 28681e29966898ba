use Rattle.std.proofs.Common.{subst}
use Rattle.ensemble.specs.Nodes.{NodesView, IsPosted}
use Rattle.ensemble.proofs.Sending.{posted_to_all}
use Rattle.ensemble.proofs.nodes.Nodes.send_to_all.Goals as goal

pub returns-in-Ok-clause-posted : goal.returns-in-Ok-clause-posted
returns-in-Ok-clause-posted c =
    let s = c.self.inside in
    let before : NodesView = record { u = s.u; proxies = s.proxies.items; executors = s.executors.items; verifiers = s.verifiers.items; mail = s.mail.items } in
    let left : NodesView = record { u = s.u; proxies = s.proxies.items; executors = s.executors.items; verifiers = s.verifiers.items; mail = c.post.new.mail.items } in
    subst (λ (n : NodesView). IsPosted n c.args.client c.args.request left) c.self.view_is
    (posted_to_all before c.args.client c.args.request c.in-Ok.letters.items c.post.new.mail.items c.in-Ok.ensures c.post.ensures.grows)
