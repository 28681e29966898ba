use Rattle.std.proofs.Common.{◌++◌, sym, ap, ◌∙◌, arith}
use Rattle.std.proofs.lemmas.Result.{err_from_is_err_and}
use Rattle.wire.specs.Item.{page_text}
use Rattle.pages.specs.Page.{PageState}
use Rattle.pages.specs.Record.{page_record}
use Rattle.pages.proofs.RecordLemmas.{none_sorted, of_entries}
use Rattle.pages.proofs.page.Page.take_sorted.Goals as goal

pub returns-in_err-entries : goal.returns-in_err-entries
returns-in_err-entries c =
    let p = err_from_is_err_and c.from_residual.result c.from_residual.ensures.1 in
    rw (p.1, p.2) (none_sorted c.args.bytes.now (λ i. omega (arith, c.type_inv.bytes i)) c.in_err-entries.field-0.0 c.in_err-entries.ensures)

pub returns : goal.returns
returns c =
    let made = c.in_ok-from_entries.ensures in
    let rest = c.in_ok-entries.rest.now in (
      ap (λ (page : PageState). page.layout) made,
      c.in_ok-entries.ensures.1 ∙ ap (λ es. page_text es ++ rest) (sym (of_entries c.in_ok-entries.entries c.in_ok-entries.ensures.0)) ∙ ap (λ (page : PageState). page_record page ++ rest) (sym made),
    )
