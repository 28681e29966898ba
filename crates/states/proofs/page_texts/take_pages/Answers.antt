use Rattle.std.proofs.Common.{◌≡◌, ◌+◌, List, [], ◌∷◌, ◌++◌, sym, ap, ◌∙◌, subst, arith}
use Rattle.std.proofs.lemmas.Result.{err_from_is_err_and}
use Rattle.std.proofs.lemmas.List.{map-append}
use Rattle.items.specs.Map.{Items}
use Rattle.pages.specs.Page.{PageState}
use Rattle.pages.specs.Layout.{text_in}
use Rattle.pages.specs.LayoutLaws.{text_prefix_free}
use Rattle.pages.specs.Joined.{items_of}
use Rattle.states.specs.StateRecord.{pages_text}
use Rattle.states.proofs.PageTextLemmas.{HasPages, no_pages, goes_on, all_read}
use Rattle.states.proofs.page_texts.take_pages.Goals as goal

pub returns-in_err-page : goal.returns-in_err-page
unfolding pages_text
returns-in_err-page c =
    let p = err_from_is_err_and c.from_residual-in_err-page.result c.from_residual-in_err-page.ensures.1 in
    rw (p.1, p.2) (no_pages (λ p m. text_in c.args.layout m) (λ p. text_prefix_free c.args.layout) (items_of c.loop-number.pages.items) c.loop-number.number c.args.bytes.now c.loop-number.rest.now c.loop-number.invariant
    (omega (arith, c.loop-number-test.true)) c.in_err-page.field-0.0 c.in_err-page.ensures)

pub loop-number-preserved : goal.loop-number-preserved
loop-number-preserved c =
    let now : items_of c.push.new.self.items ≡ items_of c.loop-number.pages.items ++ c.in_ok-page.page.items ∷ [] =
    ap items_of c.in_ok-push.ensures.items ∙ map-append (λ (page : PageState). page.items) c.loop-number.pages.items (c.in_ok-page.page ∷ []) in
    subst (λ (ms : List Items). HasPages (λ p m. text_in c.args.layout m) ms (c.loop-number.number + 1) c.args.bytes.now c.in_ok-page.after.now) (sym now)
    (goes_on (λ p m. text_in c.args.layout m) (items_of c.loop-number.pages.items) c.loop-number.number c.args.bytes.now c.loop-number.rest.now c.in_ok-page.page.items c.in_ok-page.after.now c.loop-number.invariant
    c.in_ok-page.ensures.0 c.in_ok-page.ensures.1)

pub join-requires : goal.join-requires
join-requires c =
    (all_read (λ p m. text_in c.args.layout m) (items_of c.loop-number.pages.items) c.loop-number.number c.args.bytes.now c.loop-number.rest.now c.loop-number.invariant (omega (arith, c.loop-number-test.false))).0

pub returns : goal.returns
unfolding pages_text
returns c = (
  tt,
  rw c.join.ensures (all_read (λ p m. text_in c.args.layout m) (items_of c.loop-number.pages.items) c.loop-number.number c.args.bytes.now c.loop-number.rest.now c.loop-number.invariant (omega (arith, c.loop-number-test.false))).1,
)
