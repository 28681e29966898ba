use Rattle.ensemble.proofs.Numbered.{got_numbered}
use Rattle.ensemble.proofs.nodes.Nodes.reach_proxy.Goals as goal

pub invariant_of-self : goal.invariant_of-self
invariant_of-self c = (
  c.self.invariant.0,
  got_numbered c.self.inside.proxies.items c.args.client c.in-Reply.number c.in-Reply.reply c.to_proxy.new.proxies.items c.to_proxy.result c.self.invariant.1 c.to_proxy.ensures,
)
