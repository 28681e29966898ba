use Rattle.std.proofs.Common.{sym, ◌∙◌, subst}
use Rattle.std.proofs.lemmas.Bool.{false≢true}
use Rattle.std.proofs.lemmas.Result.{err_from_is_err_and}
use Rattle.pages.specs.Joined.{IsOwn}
use Rattle.transfer.proofs.NumberedLemmas.{no_number, no_page, not_own}
use Rattle.transfer.proofs.numbered_page.NumberedPageRecord.take.Goals as goal

pub returns-in_err-number : goal.returns-in_err-number
returns-in_err-number c =
    let p = err_from_is_err_and c.from_residual.result c.from_residual.ensures.1 in
    rw (p.1, p.2) (no_number c.args.bytes.now c.in_err-number.field-0.0 c.in_err-number.ensures)

pub returns-in_err-page : goal.returns-in_err-page
returns-in_err-page c =
    let p = err_from_is_err_and c.from_residual-in_err-page.result c.from_residual-in_err-page.ensures.1 in
    rw (p.1, p.2) (no_page c.args.bytes.now c.in_ok-number.number c.in_ok-number.page_bytes.now c.in_ok-number.ensures.1 c.in_err-page.field-0.0 c.in_err-page.ensures)

pub returns-then-not-branch : goal.returns-then-not-branch
returns-then-not-branch c =
    not_own c.args.bytes.now c.in_ok-number.number c.in_ok-number.page_bytes.now c.in_ok-number.ensures.1 c.in_ok-page.page c.in_ok-page.rest.now c.in_ok-page.ensures.1
    (λ own. false≢true (sym c.if-not-branch.true ∙ c.in_ok-is_own.ensures.1 (subst (λ n. IsOwn n c.in_ok-page.page.items) (sym c.from.ensures) own)))
