use Rattle.std.proofs.Common.{None}
use Rattle.member.proofs.Steps.{begins}
use Rattle.member.proofs.opening.unopened.Goals as goal

pub invariant_of-result : goal.invariant_of-result
invariant_of-result c =
    (begins c.args.id c.args.config.now None c.none.result c.in_ok-nodes.nodes c.new.result.items c.new-2.result c.none.ensures c.in_ok-nodes.ensures c.new.ensures.items c.new-2.ensures, c.requires.proxies)
