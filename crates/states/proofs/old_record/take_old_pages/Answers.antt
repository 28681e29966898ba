use Rattle.std.proofs.Common.{ℕ, List, Option, Some, length, sym, ap, ◌∙◌, subst}
use Rattle.std.proofs.lemmas.Bool.{false≢true}
use Rattle.std.proofs.lemmas.List.{length-map}
use Rattle.std.proofs.lemmas.Result.{err_from_is_err_and}
use Rattle.items.specs.declared.item.Item.{Item}
use Rattle.pages.specs.Old.{AreGiven, given_at, given_or}
use Rattle.states.specs.OldRecord.{AreInPlace}
use Rattle.states.proofs.OldRecordLemmas.{no_old_pages, not_in_place, all_given_are, read_old}
use Rattle.states.proofs.old_record.take_old_pages.Goals as goal

pub returns-in_err-entries : goal.returns-in_err-entries
returns-in_err-entries c =
    let p = err_from_is_err_and c.from_residual.result c.from_residual.ensures.1 in
    rw (p.1, p.2) (no_old_pages c.args.bytes.now c.in_err-entries.field-0.0 c.in_err-entries.ensures)

pub are_in_place-requires : goal.are_in_place-requires
are_in_place-requires c =
    ap length (c.as_slice.ensures.value ∙ c.in_ok-given.ensures) ∙ length-map c.in_ok-entries.entries (λ es. Some es) ∙ c.in_ok-entries.ensures.0.is

pub returns-then-not-are_in_place : goal.returns-then-not-are_in_place
returns-then-not-are_in_place c =
    not_in_place c.in_ok-entries.entries c.args.bytes.now c.in_ok-entries.rest.now c.in_ok-entries.ensures.0 c.in_ok-entries.ensures.1
    (λ placed. false≢true (sym c.if-not-are_in_place.true ∙ c.are_in_place.ensures.1 (subst AreInPlace (sym (c.as_slice.ensures.value ∙ c.in_ok-given.ensures)) placed)))

pub with_old_pages-requires : goal.with_old_pages-requires
with_old_pages-requires c =
    subst AreGiven (sym (c.as_slice-2.ensures.value ∙ c.in_ok-given.ensures))
    (all_given_are c.in_ok-entries.entries c.args.bytes.now c.in_ok-entries.rest.now c.in_ok-entries.ensures.0 c.in_ok-entries.ensures.1
    (subst AreInPlace (c.as_slice.ensures.value ∙ c.in_ok-given.ensures) (c.are_in_place.ensures.0 c.if-not-are_in_place.false)))

pub returns : goal.returns
returns c =
    read_old c.in_ok-entries.entries c.args.bytes.now c.in_ok-entries.rest.now c.in_ok-entries.ensures.0 c.in_ok-entries.ensures.1 c.in_ok-new.field-0 c.in_ok-pages.pages
    (λ p l. c.in_ok-pages.ensures p l ∙ ap (λ (given : List (Option (List (List ℕ × Item)))). given_or c.in_ok-new.field-0 p (given_at given p)) (c.as_slice-2.ensures.value ∙ c.in_ok-given.ensures))
