use Rattle.std.proofs.Common.{arith, ◌∙◌, ◌∷◌, [], ap, sym, length, List, ℕ}
use Rattle.token.proofs.Levels.{half, over_halves}
use Rattle.token.proofs.tree.+last_level.Goals as goal

pub last_level-requires : goal.last_level-requires
last_level-requires t c =
    let sizes = half c.args.height (length c.args.leaves.now) c.if-height-eq0.false c.requires in
    (omega arith, c.split_at.ensures.front_len ∙ sizes.0)

pub last_level-requires-2 : goal.last_level-requires-2
last_level-requires-2 t c =
    let sizes = half c.args.height (length c.args.leaves.now) c.if-height-eq0.false c.requires in
    (omega arith, omega (arith, sizes.0, sizes.1, c.split_at.ensures.back_len))

pub returns : goal.returns
returns t c =
    let sizes = half c.args.height (length c.args.leaves.now) c.if-height-eq0.false c.requires in
    over_halves c.args.height c.args.leaves.now c.split_at.result.0.now c.split_at.result.1.now c.last_level.result c.last_level-2.result c.if-height-eq0.false
    c.split_at.ensures.by_index.0 (c.split_at.ensures.front_len ∙ sizes.0) c.last_level.ensures c.last_level-2.ensures
    ∙ ap (λ (d : List ℕ). d ∷ []) (sym c.inner_digest.ensures)
