use Rattle.std.proofs.Common.{◌≡◌, true, false, sym, ap, ◌∙◌}
use Rattle.std.specs.FinMap.{from_sorted}
use Rattle.std.proofs.lemmas.Bool.{false≢true}
use Rattle.states.proofs.changes.is_changed.Goals as goal

pub returns-then-not-has : goal.returns-then-not-has
returns-then-not-has c =
    (λ no. absurd (false≢true no), λ same. ap from_sorted (c.requires.beside c.args.number c.requires.within (sym c.has.ensures ∙ c.if-not-has.true)))
