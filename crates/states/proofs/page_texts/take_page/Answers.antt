use Rattle.std.proofs.Common.{◌≡◌, sym, ◌∙◌, rules}
use Rattle.std.proofs.lemmas.Bool.{false≢true}
use Rattle.std.proofs.lemmas.Result.{err_from_is_err_and}
use Rattle.states.proofs.EntryLemmas.{no_page_in, other_layout, not_own}
use Rattle.states.proofs.page_texts.take_page.Goals as goal

pub returns-in_err-page : goal.returns-in_err-page
returns-in_err-page c =
    let p = err_from_is_err_and c.from_residual.result c.from_residual.ensures.1 in
    rw (p.1, p.2) (no_page_in c.args.layout c.args.number c.args.bytes.now c.in_err-page.field-0.0 c.in_err-page.ensures)

pub returns-then-ne : goal.returns-then-ne
returns-then-ne c =
    let apart : c.in_ok-page.page.layout ≡ c.args.layout → ⊥ = λ same. search rules in
    other_layout c.args.layout c.args.number c.args.bytes.now c.in_ok-page.page c.in_ok-page.rest.now c.in_ok-page.ensures.1 apart

pub returns-then-not-branch : goal.returns-then-not-branch
returns-then-not-branch c =
    not_own c.args.layout c.args.number c.args.bytes.now c.in_ok-page.page c.in_ok-page.rest.now c.in_ok-page.ensures.1
    (λ own. false≢true (sym c.if-not-branch.true ∙ c.in_ok-is_own.ensures.1 own))
