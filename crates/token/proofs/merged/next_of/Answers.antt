use Rattle.std.proofs.Common.{◌≡◌, ◌<◌, length, sym, ◌∙◌, arith}
use Rattle.token.specs.Merged.{lent, part_at, is_earlier}
use Rattle.token.proofs.MergeLemmas.{next-taken, next-kept, lent-at}
use Rattle.token.proofs.merged.next_of.Goals.{then-is_earlier, else-is_earlier}
use Rattle.token.proofs.merged.next_of.Goals as goal

-- the test is that of the two parts
test : (c : goal.Joined-is_earlier) → is_earlier (part_at (lent c.args.parts.now) c.loop-part.part) (part_at (lent c.args.parts.now) c.loop-part.next) ≡ c.is_earlier.result
test c =
    let part : c.loop-part.part < length c.args.parts.now = omega (arith, c.type_inv.parts, c.loop-part-test.true) in
    let next : c.loop-part.next < length c.args.parts.now = omega (arith, c.type_inv.parts, c.loop-part-test.true, c.loop-part.invariant.0) in
    let one = lent-at c.args.parts.now c.loop-part.part c.index-parts-part.result part c.index-parts-part.is in
    let other = lent-at c.args.parts.now c.loop-part.next c.index-parts-next.result next c.index-parts-next.is in
    (λ i. is_earlier (sym one i) (sym other i)) ∙ sym (c.is_earlier.ensures ∙ (λ i. is_earlier ((sym c.index-parts-part.is i).now) ((sym c.index-parts-next.is i).now)))

pub loop-part-preserved : goal.loop-part-preserved
loop-part-preserved c = elim c.if-is_earlier.branch [
  | then-is_earlier w ↦ (
    omega (arith, w.next-is),
    λ j l is. w.next-is ∙ next-taken (lent c.args.parts.now) c.loop-part.next c.loop-part.part c.loop-part-test.true (test c ∙ w.if-is_earlier.true) c.loop-part.invariant.1 j l is,
  )
  | else-is_earlier w ↦ (
    omega (arith, w.next-is, c.loop-part.invariant.0),
    λ j l is. w.next-is ∙ next-kept (lent c.args.parts.now) c.loop-part.next c.loop-part.part c.loop-part.invariant.0 c.loop-part-test.true (test c ∙ w.if-is_earlier.false) c.loop-part.invariant.1 j l is,
  )
]
