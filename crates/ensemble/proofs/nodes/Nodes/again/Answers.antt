use Rattle.std.proofs.Common.{rules, ◌≡◌, inl, Some}
use Rattle.ensemble.specs.Shown.{outstanding_at}
use Rattle.ensemble.proofs.Served.{outstanding_is}
use Rattle.ensemble.proofs.nodes.Nodes.again.Goals as goal

pub returns-in-Ok-Some-clause-again : goal.returns-in-Ok-Some-clause-again
returns-in-Ok-Some-clause-again c =
    let is : outstanding_at c.args.self.now.proxies c.args.number ≡ Some c.in-Ok-Some.request = search rules in
    inl (c.in-Ok-Some.request, outstanding_is c.args.self.now.proxies c.args.number c.in-Ok-Some.request is, c.send_to_all.ensures.posted)
