use Rattle.ensemble.specs.Ensemble.{EnsembleView, first_found}
use Rattle.ensemble.specs.Process.{ensemble_after}
use Rattle.ensemble.proofs.Ending.{goes_on_after}
use Rattle.ensemble.proofs.Going.{collect_goes}
use Rattle.std.proofs.Common.{◌≡◌, subst}
use Rattle.hosts.specs.Host.{HostCollects}
use Rattle.ensemble.specs.Nodes.{HostMoves, size_of}
use Rattle.ensemble.specs.Calls.{HostPosts, RefusedNothing}
use Rattle.ensemble.proofs.Sizes.{host_size}
use Rattle.ensemble.proofs.ensemble.Ensemble.collect.Goals as goal

pub invariant_of-self : goal.invariant_of-self
invariant_of-self c =
    let old : EnsembleView = record { nodes = c.self.inside.nodes; asked = c.self.inside.asked.items; answered = c.self.inside.answered.items; order = c.self.inside.order.items; refused = 0; found = first_found c.self.inside.found.items } in
    goes_on_after old.found old (record old { nodes = c.collect.new.self }) (λ before h. collect_goes (ensemble_after before old) c.collect.new.self h c.args.id c.collect.ensures.moves) c.self.invariant

pub returns-clause-size : goal.returns-clause-size
returns-clause-size c = subst (λ (e : EnsembleView). size_of c.collect.new.self ≡ size_of e.nodes) c.self.view_is (host_size _ c.args.id c.self.inside.nodes c.collect.new.self c.collect.ensures.moves)

pub returns-clause-collected : goal.returns-clause-collected
returns-clause-collected c = subst (λ (e : EnsembleView). HostMoves HostCollects c.args.id e.nodes c.collect.new.self) c.self.view_is c.collect.ensures.moves

pub returns-clause-posted : goal.returns-clause-posted
returns-clause-posted c = subst (λ (e : EnsembleView). RefusedNothing e.refused c.collect.new.refused → HostPosts HostCollects c.args.id e.nodes c.collect.new.self) c.self.view_is c.collect.ensures.posted
