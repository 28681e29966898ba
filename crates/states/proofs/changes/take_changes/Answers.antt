use Rattle.std.proofs.Common.{◌≡◌, ◌+◌, ℕ, List, [], ◌∷◌, ◌++◌, sym, ap, ◌∙◌, subst, arith}
use Rattle.std.proofs.lemmas.List.{map-append}
use Rattle.std.proofs.lemmas.Result.{err_from_is_err_and}
use Rattle.items.specs.Map.{Items}
use Rattle.wire.specs.Record.{Refused, NoPrefix}
use Rattle.pages.specs.Page.{PageState, page_items}
use Rattle.pages.specs.Joined.{IsOwn, items_of, parts}
use Rattle.states.specs.StateRecord.{change_text, changes_text}
use Rattle.states.proofs.EntryLemmas.{change_free}
use Rattle.states.proofs.PageTextLemmas.{HasPages, no_pages, goes_on, all_read, shared_page, own_page_items}
use Rattle.states.proofs.changes.take_changes.Goals as goal

pub take_change-requires : goal.take_change-requires
take_change-requires c =
    let parted : items_of c.in_ok-shared.shared.items ≡ parts c.args.before.now.items = c.in_ok-shared.ensures ∙ ap parts c.in_ok-open.ensures in
    let page = shared_page c.in_ok-shared.shared.items c.args.before.now.items c.loop-number.number c.index.result.now parted (omega (arith, c.loop-number-test.true)) c.index.ensures in
    subst (IsOwn c.loop-number.number) (sym page) (own_page_items c.args.before.now.items c.loop-number.number)

pub returns-in_err-page : goal.returns-in_err-page
unfolding changes_text
returns-in_err-page c =
    let p = err_from_is_err_and c.from_residual-in_err-page.result c.from_residual-in_err-page.ensures.1 in
    let parted : items_of c.in_ok-shared.shared.items ≡ parts c.args.before.now.items = c.in_ok-shared.ensures ∙ ap parts c.in_ok-open.ensures in
    let page = shared_page c.in_ok-shared.shared.items c.args.before.now.items c.loop-number.number c.index.result.now parted (omega (arith, c.loop-number-test.true)) c.index.ensures in
    let refused = subst (λ (m : Items). Refused c.in_err-page.field-0.0 (NoPrefix {X = PageState} (λ v. IsOwn c.loop-number.number v.items) (λ v. change_text c.args.layout m v.items) c.loop-number.rest.now)) page c.in_err-page.ensures in
    rw (p.1, p.2) (no_pages (λ p m. change_text c.args.layout (page_items c.args.before.now.items p) m) (λ p. change_free c.args.layout (page_items c.args.before.now.items p)) (items_of c.loop-number.pages.items) c.loop-number.number c.args.bytes.now c.loop-number.rest.now c.loop-number.invariant
    (omega (arith, c.loop-number-test.true)) c.in_err-page.field-0.0 refused)

pub loop-number-preserved : goal.loop-number-preserved
loop-number-preserved c =
    let parted : items_of c.in_ok-shared.shared.items ≡ parts c.args.before.now.items = c.in_ok-shared.ensures ∙ ap parts c.in_ok-open.ensures in
    let page = shared_page c.in_ok-shared.shared.items c.args.before.now.items c.loop-number.number c.index.result.now parted (omega (arith, c.loop-number-test.true)) c.index.ensures in
    let now : items_of c.push.new.self.items ≡ items_of c.loop-number.pages.items ++ c.in_ok-page.page.items ∷ [] =
    ap items_of c.in_ok-push.ensures.items ∙ map-append (λ (page : PageState). page.items) c.loop-number.pages.items (c.in_ok-page.page ∷ []) in
    subst (λ (ms : List Items). HasPages (λ p m. change_text c.args.layout (page_items c.args.before.now.items p) m) ms (c.loop-number.number + 1) c.args.bytes.now c.in_ok-page.after.now) (sym now)
    (goes_on (λ p m. change_text c.args.layout (page_items c.args.before.now.items p) m) (items_of c.loop-number.pages.items) c.loop-number.number c.args.bytes.now c.loop-number.rest.now c.in_ok-page.page.items c.in_ok-page.after.now c.loop-number.invariant
    c.in_ok-page.ensures.0 (c.in_ok-page.ensures.1 ∙ ap (λ m. change_text c.args.layout m c.in_ok-page.page.items ++ c.in_ok-page.after.now) page))

pub join-requires : goal.join-requires
join-requires c =
    (all_read (λ p m. change_text c.args.layout (page_items c.args.before.now.items p) m) (items_of c.loop-number.pages.items) c.loop-number.number c.args.bytes.now c.loop-number.rest.now c.loop-number.invariant (omega (arith, c.loop-number-test.false))).0

pub returns : goal.returns
unfolding changes_text
returns c = (
  tt,
  rw c.join.ensures (all_read (λ p m. change_text c.args.layout (page_items c.args.before.now.items p) m) (items_of c.loop-number.pages.items) c.loop-number.number c.args.bytes.now c.loop-number.rest.now c.loop-number.invariant (omega (arith, c.loop-number-test.false))).1,
)
