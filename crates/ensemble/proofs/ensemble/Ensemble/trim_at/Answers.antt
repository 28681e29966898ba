use Rattle.std.proofs.Common.{subst, ◌≡◌}
use Rattle.ensemble.specs.Nodes.{VerifierMoves, size_of}
use Rattle.ensemble.specs.Trimming.{VerifierTrimsDue}
use Rattle.ensemble.specs.Ensemble.{EnsembleView, first_found}
use Rattle.ensemble.specs.Process.{ensemble_after}
use Rattle.ensemble.proofs.Ending.{goes_on_after}
use Rattle.ensemble.proofs.Going.{trim_at_goes}
use Rattle.ensemble.proofs.Sizes.{verifier_size}
use Rattle.ensemble.proofs.Collecting.{verifier_waits}
use Rattle.ensemble.specs.Calls.{AllCollected}
use Rattle.ensemble.proofs.ensemble.Ensemble.trim_at.Goals as goal

pub invariant_of-self : goal.invariant_of-self
invariant_of-self c =
    let old : EnsembleView = record { nodes = c.self.inside.nodes; asked = c.self.inside.asked.items; answered = c.self.inside.answered.items; order = c.self.inside.order.items; refused = 0; found = first_found c.self.inside.found.items } in
    goes_on_after old.found old (record old { nodes = c.trim.new.self }) (λ before h. trim_at_goes (ensemble_after before old) c.trim.new.self h c.args.id c.trim.ensures.moves) c.self.invariant

pub returns-clause-due : goal.returns-clause-due
returns-clause-due c = subst (λ (e : EnsembleView). VerifierMoves VerifierTrimsDue c.args.id e.nodes c.trim.new.self) c.self.view_is c.trim.ensures.due

pub returns-clause-size : goal.returns-clause-size
returns-clause-size c = subst (λ (e : EnsembleView). size_of c.trim.new.self ≡ size_of e.nodes) c.self.view_is (verifier_size _ c.args.id c.self.inside.nodes c.trim.new.self c.trim.ensures.moves)

pub returns-clause-waits : goal.returns-clause-waits
returns-clause-waits c = subst (λ (e : EnsembleView). AllCollected e.nodes → AllCollected c.trim.new.self) c.self.view_is (verifier_waits _ c.args.id c.self.inside.nodes c.trim.new.self c.trim.ensures.moves)
