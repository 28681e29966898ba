use Rattle.std.proofs.Common.{rules, ◌≡◌, ◌∙◌, ap, ◌∷◌, List, ℕ, sym, refl, false, true}
use Rattle.std.proofs.lemmas.Result.{err_from_is_err_and}
use Rattle.std.specs.FinMap.{is_sorted}
use Rattle.items.specs.Map.{by_bytes}
use Rattle.wire.specs.Item.{page_text, EntriesFit}
use Rattle.wire.specs.ItemLaws.{page_prefix_free}
use Rattle.wire.proofs.Rows.{no_marked_row, unfit}
use Rattle.wire.proofs.page.EntriesRecord.take.Goals as goal

pub returns-in_err-listed : goal.returns-in_err-listed
unfolding page_text
returns-in_err-listed c =
    let p = err_from_is_err_and c.from_residual-in_err-listed.result c.from_residual-in_err-listed.ensures.1 in
    rw (p.1, p.2) (no_marked_row EntriesFit page_text _ _ (λ es. es) 0 c.args.bytes.now c.in_ok-rest.rest.now c.in_ok-rest.ensures.ok
    (λ es f. record { count = f.page; each = λ k d lt. (tt, tt) }) (λ es. refl) c.in_err-listed.field-0.0 c.in_err-listed.ensures)

pub returns-then-not-is_rising : goal.returns-then-not-is_rising
unfolding page_text
returns-then-not-is_rising c =
    let not : is_sorted by_bytes c.in_ok-listed.listed ≡ false = search rules in
    unfit EntriesFit page_prefix_free c.args.bytes.now c.in_ok-listed.listed c.in_ok-listed.rest.now
    (c.in_ok-rest.ensures.ok ∙ ap (λ (t : List ℕ). 0 ∷ t) c.in_ok-listed.ensures.1)
    (λ f. let clash : false ≡ true = sym not ∙ f.rising in absurd (cc clash))
