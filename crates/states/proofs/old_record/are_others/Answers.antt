use Rattle.std.proofs.Common.{◌≢◌, ◌≤◌, ℕ, List, Option, None, refl, sym, ◌∙◌, arith, subst, inl, inr}
use Rattle.std.specs.Prelude.{IfSome}
use Rattle.std.proofs.Math.Nat.{eq-or-lt_of_le}
use Rattle.std.proofs.lemmas.Bool.{false≢true}
use Rattle.std.proofs.lemmas.List.{get_or_default}
use Rattle.items.specs.declared.item.Item.{Item}
use Rattle.pages.specs.Old.{old_entries, given_at}
use Rattle.states.proofs.old_record.are_others.Goals as goal

pub loop-number-preserved : goal.loop-number-preserved
loop-number-preserved c = λ p l.
    let n = c.loop-number.number in
    let given = c.args.given.now in
    let is = c.index-given-number.is ∙ get_or_default given n c.index-given-number.result None (omega (arith, c.loop-number-test.true, c.requires)) in
    let here : IfSome (given_at c.args.given.now c.loop-number.number) (λ es. old_entries c.args.before.now.items c.loop-number.number ≢ old_entries c.args.after.now.items c.loop-number.number) =
    subst (λ (o : Option (List (List ℕ × Item))). IfSome o (λ es. old_entries c.args.before.now.items c.loop-number.number ≢ old_entries c.args.after.now.items c.loop-number.number)) is (c.in_ok-is_other.ensures.0 c.if-not-branch.false) in
    let most : p ≤ c.loop-number.number = omega (arith, l) in
    elim (eq-or-lt_of_le most) [
      | inl e ↦ subst (λ (q : ℕ). IfSome (given_at given q) (λ es. old_entries c.args.before.now.items q ≢ old_entries c.args.after.now.items q)) (sym e) here
      | inr h ↦ c.loop-number.invariant p h
    ]

pub returns-then-not-branch : goal.returns-then-not-branch
returns-then-not-branch c = (
  λ no. absurd (false≢true no),
  λ all.
      let n = c.loop-number.number in
      let given = c.args.given.now in
      let is = c.index-given-number.is ∙ get_or_default given n c.index-given-number.result None (omega (arith, c.loop-number-test.true, c.requires)) in
      absurd (false≢true (sym c.if-not-branch.true ∙ c.in_ok-is_other.ensures.1 (subst (λ (o : Option (List (List ℕ × Item))). IfSome o (λ es. old_entries c.args.before.now.items c.loop-number.number ≢ old_entries c.args.after.now.items c.loop-number.number)) (sym is) (all n c.loop-number-test.true)))),
)

pub returns : goal.returns
returns c = (λ yes p l. c.loop-number.invariant p (omega (arith, l, c.loop-number-test.false)), λ all. refl)
