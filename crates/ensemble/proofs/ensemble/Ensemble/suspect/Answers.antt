use Rattle.std.proofs.Common.{◌≡◌, ◌<◌, ◌^◌, ◌-◌, subst}
use Rattle.verifier.specs.declared.input.Input.TheVariants.{Suspect}
use Rattle.ensemble.specs.Nodes.{VerifierMoves, VerifierGets, size_of}
use Rattle.ensemble.specs.Calls.{AllCollected}
use Rattle.ensemble.specs.Served.{VerifierPosts}
use Rattle.ensemble.specs.Ensemble.{EnsembleView, first_found}
use Rattle.ensemble.specs.Process.{ensemble_after}
use Rattle.ensemble.proofs.Ending.{goes_on_after}
use Rattle.ensemble.proofs.Going.{suspect_at_goes}
use Rattle.ensemble.proofs.Sizes.{verifier_size}
use Rattle.ensemble.proofs.Collecting.{verifier_waits}
use Rattle.ensemble.proofs.ensemble.Ensemble.suspect.Goals as goal

pub invariant_of-self : goal.invariant_of-self
invariant_of-self c =
    let old : EnsembleView = record { nodes = c.self.inside.nodes; asked = c.self.inside.asked.items; answered = c.self.inside.answered.items; order = c.self.inside.order.items; refused = 0; found = first_found c.self.inside.found.items } in
    goes_on_after old.found old (record old { nodes = c.suspect.new.self }) (λ before h. suspect_at_goes (ensemble_after before old) c.suspect.new.self h c.args.verifier c.suspect.ensures.moves) c.self.invariant

pub returns-clause-told : goal.returns-clause-told
returns-clause-told c = subst (λ (e : EnsembleView). VerifierMoves (VerifierGets Suspect) c.args.verifier e.nodes c.suspect.new.self) c.self.view_is c.suspect.ensures.moves

pub returns-clause-sent : goal.returns-clause-sent
returns-clause-sent c = subst (λ (e : EnsembleView). c.suspect.new.refused ≡ e.refused → e.refused < 2 ^ 64 - 1 → VerifierPosts (VerifierGets Suspect) c.args.verifier e.nodes c.suspect.new.self) c.self.view_is c.suspect.ensures.posted

pub returns-clause-size : goal.returns-clause-size
returns-clause-size c = subst (λ (e : EnsembleView). size_of c.suspect.new.self ≡ size_of e.nodes) c.self.view_is (verifier_size _ c.args.verifier c.self.inside.nodes c.suspect.new.self c.suspect.ensures.moves)

pub returns-clause-waits : goal.returns-clause-waits
returns-clause-waits c = subst (λ (e : EnsembleView). AllCollected e.nodes → AllCollected c.suspect.new.self) c.self.view_is (verifier_waits _ c.args.verifier c.self.inside.nodes c.suspect.new.self c.suspect.ensures.moves)
