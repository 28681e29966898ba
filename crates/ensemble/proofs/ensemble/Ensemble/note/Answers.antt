use Rattle.std.proofs.Common.{◌≡◌, ℕ, ◌++◌, ◌∷◌, [], subst}
use Rattle.ensemble.specs.Ensemble.{EnsembleView, first_found, moment_entry}
use Rattle.ensemble.proofs.Ending.{goes_on_after}
use Rattle.ensemble.proofs.Continuing.{moment_noted}
use Rattle.ensemble.proofs.ensemble.Ensemble.note.Goals as goal

pub invariant_of-self : goal.invariant_of-self
invariant_of-self c =
    let old : EnsembleView = record { nodes = c.self.inside.nodes; asked = c.self.inside.asked.items; answered = c.self.inside.answered.items; order = c.self.inside.order.items; refused = 0; found = first_found c.self.inside.found.items } in
    goes_on_after old.found old (record old { order = c.and-self-inside.result.items })
    (moment_noted old c.args.moment c.and-self-inside.result.items
    (subst (λ (m : ℕ). c.and-self-inside.result.items ≡ c.self.inside.order.items ++ moment_entry m ∷ []) c.from.ensures c.and-self-inside.ensures)) c.self.invariant
