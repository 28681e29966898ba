use Rattle.std.proofs.Common.{Some}
use Rattle.member.proofs.Steps.{begins}
use Rattle.member.proofs.recording.reopened.Goals as goal

pub invariant_of-result : goal.invariant_of-result
invariant_of-result c =
    (begins c.args.id c.args.config.now (Some c.args.found) c.of-log.result c.in_ok-nodes.nodes c.new.result.items c.new-2.result c.of-log.ensures c.in_ok-nodes.ensures c.new.ensures.items c.new-2.ensures, c.requires.proxies)
