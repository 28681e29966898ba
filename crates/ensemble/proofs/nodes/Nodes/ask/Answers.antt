use Rattle.ensemble.proofs.Numbered.{ask_numbered, ask_of}
use Rattle.ensemble.proofs.nodes.Nodes.ask.Goals as goal

pub invariant_of-self : goal.invariant_of-self
invariant_of-self c = (
  c.self.invariant.0,
  ask_numbered c.self.inside.proxies.items c.ask_at.new.proxies.items c.args.number c.args.command c.args.quiet c.ask_at.result c.self.invariant.1 c.ask_at.ensures.ok c.ask_at.ensures.err,
)

pub returns-clause-numbered : goal.returns-clause-numbered
returns-clause-numbered c = ask_of c.self.inside.proxies.items c.ask_at.new.proxies.items c.args.number c.args.command c.args.quiet c.ask_at.result c.self.invariant.1 c.ask_at.ensures.ok
