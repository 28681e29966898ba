use Rattle.std.proofs.Common.{◌≡◌, ℕ, ◌<◌, sym, ap, ◌∙◌, subst}
use Rattle.std.proofs.lemmas.Bool.{false≢true}
use Rattle.std.proofs.lemmas.Result.{err_from_is_err_and}
use Rattle.token.specs.declared.tree.TheConstants.{OLD_PAGES}
use Rattle.pages.specs.Page.{Laid}
use Rattle.pages.specs.Old.{old_entries, AreGiven, given_at, given_or}
use Rattle.states.specs.OldRecord.{AreInPlace, AreOthers}
use Rattle.states.proofs.OldRecordLemmas.{no_old_changes, changes_not_in_place, given_are, not_others, no_texts, read_changes}
use Rattle.states.proofs.old_record.take_old_changes.Goals as goal

pub returns-in_err-given : goal.returns-in_err-given
returns-in_err-given c =
    let p = err_from_is_err_and c.from_residual.result c.from_residual.ensures.1 in
    rw (p.1, p.2) (no_old_changes c.args.before.now.items c.args.bytes.now c.in_err-given.field-0.0 c.in_err-given.ensures)

pub returns-then-not-are_in_place : goal.returns-then-not-are_in_place
returns-then-not-are_in_place c =
    changes_not_in_place c.args.before.now.items c.in_ok-given.given c.args.bytes.now c.in_ok-given.rest.now c.in_ok-given.ensures.0 c.in_ok-given.ensures.1
    (λ placed. false≢true (sym c.if-not-are_in_place.true ∙ c.are_in_place.ensures.1 (subst AreInPlace (sym c.as_slice-given.ensures) placed)))

pub with_old_pages-requires : goal.with_old_pages-requires
with_old_pages-requires c =
    subst AreGiven (sym c.as_slice-given.ensures)
    (given_are c.args.before.now.items c.in_ok-given.given c.args.bytes.now c.in_ok-given.rest.now c.in_ok-given.ensures.0 c.in_ok-given.ensures.1
    (subst AreInPlace c.as_slice-given.ensures (c.are_in_place.ensures.0 c.if-not-are_in_place.false)))

pub returns-then-not-branch : goal.returns-then-not-branch
returns-then-not-branch c =
    let shared = c.in_ok-open.ensures in
    let after = c.in_ok-after.after.items in
    let is : (p : ℕ) → p < OLD_PAGES → old_entries c.in_ok-after.after.items p ≡ given_or c.args.before.now.items p (given_at c.in_ok-given.given p) =
    λ p l. ap (λ (s : Laid). old_entries s.items p) c.in_ok-after.ensures ∙ c.in_ok-pages.ensures p l ∙ (λ i. given_or (shared i) p (given_at (c.as_slice-given.ensures i) p)) in
    not_others c.args.before.now.items c.in_ok-given.given c.args.bytes.now c.in_ok-given.rest.now c.in_ok-given.ensures.0 c.in_ok-given.ensures.1 after is
    (λ others. false≢true (sym c.if-not-branch.true ∙ c.in_ok-are_others.ensures.1 (subst (AreOthers c.args.before.now.items after) (sym c.as_slice-given.ensures) others)))

pub returns-then-not-has_old_texts : goal.returns-then-not-has_old_texts
returns-then-not-has_old_texts c =
    let shared = c.in_ok-open.ensures in
    let after = c.in_ok-after.after.items in
    let is : (p : ℕ) → p < OLD_PAGES → old_entries c.in_ok-after.after.items p ≡ given_or c.args.before.now.items p (given_at c.in_ok-given.given p) =
    λ p l. ap (λ (s : Laid). old_entries s.items p) c.in_ok-after.ensures ∙ c.in_ok-pages.ensures p l ∙ (λ i. given_or (shared i) p (given_at (c.as_slice-given.ensures i) p)) in
    no_texts c.args.before.now.items c.in_ok-given.given c.args.bytes.now c.in_ok-given.rest.now c.in_ok-given.ensures.0 c.in_ok-given.ensures.1 after is
    (λ texts. false≢true (sym c.if-not-has_old_texts.true ∙ c.has_old_texts.ensures.1 texts))

pub returns : goal.returns
returns c =
    let shared = c.in_ok-open.ensures in
    let after = c.in_ok-after.after.items in
    let is : (p : ℕ) → p < OLD_PAGES → old_entries c.in_ok-after.after.items p ≡ given_or c.args.before.now.items p (given_at c.in_ok-given.given p) =
    λ p l. ap (λ (s : Laid). old_entries s.items p) c.in_ok-after.ensures ∙ c.in_ok-pages.ensures p l ∙ (λ i. given_or (shared i) p (given_at (c.as_slice-given.ensures i) p)) in
    rw c.in_ok-open-2.ensures (
      c.has_old_texts.ensures.0 c.if-not-has_old_texts.false,
      read_changes c.args.before.now.items c.in_ok-given.given c.args.bytes.now c.in_ok-given.rest.now c.in_ok-given.ensures.0 c.in_ok-given.ensures.1 after is
          (subst (AreOthers c.args.before.now.items after) c.as_slice-given.ensures (c.in_ok-are_others.ensures.0 c.if-not-branch.false)),
    )
