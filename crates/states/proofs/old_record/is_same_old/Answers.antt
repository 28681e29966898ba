use Rattle.std.proofs.Common.{◌≡◌, ℕ, ◌≤◌, ◌+◌, ◌*◌, refl, sym, ◌∙◌, arith, ap, subst, inl, inr}
use Rattle.std.proofs.Math.Nat.{eq-or-lt_of_le}
use Rattle.std.proofs.lemmas.Bool.{false≢true}
use Rattle.token.specs.declared.tree.TheConstants.{OLD_PAGES}
use Rattle.std.specs.FinMap.{entries, from_sorted}
use Rattle.pages.specs.Page.{page_entries, page_items}
use Rattle.pages.proofs.PartLemmas.{entries-page_items}
use Rattle.pages.proofs.GivenLemmas.{same-from_parts, parts-from_same}
use Rattle.states.proofs.old_record.is_same_old.Goals as goal

pub loop-part-preserved : goal.loop-part-preserved
loop-part-preserved c = λ i l.
    let here = c.in_ok-is_same_page.ensures.0 c.if-not-branch.false in
    let most : i ≤ c.loop-part.part = omega (arith, l) in
    elim (eq-or-lt_of_le most) [
      | inl e ↦ subst (λ (k : ℕ). page_items c.args.before.now.items (c.args.number + k * OLD_PAGES) ≡ page_items c.args.after.now.items (c.args.number + k * OLD_PAGES)) (sym e) here
      | inr h ↦ c.loop-part.invariant i h
    ]

pub returns-then-not-branch : goal.returns-then-not-branch
returns-then-not-branch c = (
  λ no. absurd (false≢true no),
  λ same.
      let part = parts-from_same c.args.before.now.items c.args.after.now.items c.args.number c.loop-part.part c.requires c.loop-part-test.true same in
      absurd (false≢true (sym c.if-not-branch.true ∙ c.in_ok-is_same_page.ensures.1 (ap from_sorted part))),
)

pub returns : goal.returns
returns c =
    let same_entries : (p : ℕ) → page_items c.args.before.now.items p ≡ page_items c.args.after.now.items p → page_entries c.args.before.now.items p ≡ page_entries c.args.after.now.items p =
    λ p same. sym (entries-page_items c.args.before.now.items p) ∙ ap entries same ∙ entries-page_items c.args.after.now.items p in
    (λ yes. same-from_parts c.args.before.now.items c.args.after.now.items c.args.number c.requires (λ i l. same_entries (c.args.number + i * OLD_PAGES) (c.loop-part.invariant i (omega (arith, l, c.loop-part-test.false)))), λ same. refl)
