use Rattle.std.proofs.Common.{◌≡◌, ℕ, List, ◌++◌, length, sym, ap, ◌∙◌, arith, subst}
use Rattle.items.specs.declared.item.Item.{Item}
use Rattle.wire.specs.Item.{entry_text}
use Rattle.token.specs.Merged.{AreParts, lent}
use Rattle.token.proofs.MergeLemmas.{next-begins, left-lent, first-of-rest}
use Rattle.token.proofs.merged.put_next.Goals.{in-Some+in_ok-put, in_default}
use Rattle.token.proofs.merged.put_next.Goals as goal

pub returns-clause-left : goal.returns-clause-left
returns-clause-left g c = elim c.match-split_first.branch [
  | in-Some+in_ok-put w ↦ λ class e es are.
      let found = next-begins class e es c.args.parts.now are c.next_of-next.result c.index-parts-next.result c.next_of-next.ensures.next c.index-parts-next.is in
      let first = first-of-rest _ _ _ e _ w.in-Some.ensures.cases (ap (λ s. s.now) (sym c.index-parts-next.is) ∙ found.1) in
      subst (λ parts. AreParts class es (lent parts)) (sym w.parts-is) (left-lent class e es c.args.parts.now are c.next_of-next.result w.in-Some.others found.0 first.0)
  | in_default w ↦ λ class e es are.
      let found = next-begins class e es c.args.parts.now are c.next_of-next.result c.index-parts-next.result c.next_of-next.ensures.next c.index-parts-next.is in
      let none : length c.index-parts-next.result.now ≡ 0 = ap (λ s. length s.now) c.index-parts-next.is ∙ w.in_default.ensures.cases in
      absurd (omega (arith, none, ap length found.1))
]

pub returns-clause-put : goal.returns-clause-put
returns-clause-put g c = elim c.match-split_first.branch [
  | in-Some+in_ok-put w ↦ λ class e es are m h.
      let found = next-begins class e es c.args.parts.now are c.next_of-next.result c.index-parts-next.result c.next_of-next.ensures.next c.index-parts-next.is in
      let first = first-of-rest _ _ _ e _ w.in-Some.ensures.cases (ap (λ s. s.now) (sym c.index-parts-next.is) ∙ found.1) in
      subst (λ (x : List ℕ × Item). g.S.Sink.holds c.match-split_first.sink (m ++ entry_text x)) first.1
      (subst (λ sink. g.S.Sink.holds sink (m ++ entry_text w.in-Some.entry.now)) (sym w.sink-is) (w.in_ok-put.ensures m h))
  | in_default w ↦ λ class e es are m h.
      let found = next-begins class e es c.args.parts.now are c.next_of-next.result c.index-parts-next.result c.next_of-next.ensures.next c.index-parts-next.is in
      let none : length c.index-parts-next.result.now ≡ 0 = ap (λ s. length s.now) c.index-parts-next.is ∙ w.in_default.ensures.cases in
      absurd (omega (arith, none, ap length found.1))
]
