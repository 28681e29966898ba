use Rattle.std.proofs.Common.{subst}
use Rattle.ensemble.specs.Ensemble.{EnsembleView, first_found}
use Rattle.ensemble.specs.Process.{IsEnsembleAfter}
use Rattle.ensemble.proofs.Ending.{goes_on_after}
use Rattle.ensemble.proofs.Continuing.{counted}
use Rattle.ensemble.proofs.ensemble.Ensemble.shows.Goals as goal

pub returns : goal.returns
returns c =
    let s = c.self.inside in
    let old : EnsembleView = record { nodes = s.nodes; asked = s.asked.items; answered = s.answered.items; order = s.order.items; refused = 0; found = first_found s.found.items } in
    subst (λ (e : EnsembleView). IsEnsembleAfter e.found e) c.self.view_is (goes_on_after old.found old (record old { refused = s.refused }) (counted old s.refused) c.self.invariant)
