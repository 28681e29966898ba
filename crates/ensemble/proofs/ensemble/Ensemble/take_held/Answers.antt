use Rattle.ensemble.specs.Ensemble.{EnsembleView, first_found}
use Rattle.ensemble.specs.Process.{ensemble_after}
use Rattle.ensemble.proofs.Ending.{goes_on_after}
use Rattle.ensemble.proofs.Going.{take_held_goes}
use Rattle.std.proofs.Common.{◌≡◌, subst}
use Rattle.ensemble.specs.Nodes.{HostMoves, size_of}
use Rattle.ensemble.proofs.Sizes.{host_size}
use Rattle.ensemble.proofs.Collecting.{host_waits, advances_keeps}
use Rattle.ensemble.specs.Calls.{AllCollected}
use Rattle.hosts.specs.Due.{HostTakesDue}
use Rattle.ensemble.proofs.ensemble.Ensemble.take_held.Goals as goal

pub invariant_of-self : goal.invariant_of-self
invariant_of-self c =
    let old : EnsembleView = record { nodes = c.self.inside.nodes; asked = c.self.inside.asked.items; answered = c.self.inside.answered.items; order = c.self.inside.order.items; refused = 0; found = first_found c.self.inside.found.items } in
    goes_on_after old.found old (record old { nodes = c.take_held.new.self }) (λ before h. take_held_goes (ensemble_after before old) c.take_held.new.self h c.args.id c.take_held.ensures.moves) c.self.invariant

pub returns-clause-size : goal.returns-clause-size
returns-clause-size c = subst (λ (e : EnsembleView). size_of c.take_held.new.self ≡ size_of e.nodes) c.self.view_is (host_size _ c.args.id c.self.inside.nodes c.take_held.new.self c.take_held.ensures.moves)

pub returns-clause-waits : goal.returns-clause-waits
returns-clause-waits c = subst (λ (e : EnsembleView). AllCollected e.nodes → AllCollected c.take_held.new.self) c.self.view_is (host_waits _ advances_keeps c.args.id c.self.inside.nodes c.take_held.new.self c.take_held.ensures.moves)

pub returns-clause-due : goal.returns-clause-due
returns-clause-due c = subst (λ (e : EnsembleView). HostMoves HostTakesDue c.args.id e.nodes c.take_held.new.self) c.self.view_is c.take_held.ensures.due
