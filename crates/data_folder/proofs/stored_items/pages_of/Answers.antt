use Rattle.std.proofs.Common.{◌≡◌, ℕ, ◌+◌, List, [], ◌∷◌, ◌++◌, length, sym, ap, ◌∙◌, subst, arith}
use Rattle.std.proofs.lemmas.List.{map-append, length-append}
use Rattle.items.specs.Map.{Items}
use Rattle.pages.specs.Page.{PageState, page_count}
use Rattle.pages.specs.Joined.{IsOwn, AreOwn, items_of}
use Rattle.states.proofs.PageTextLemmas.{own_snoc}
use Rattle.data_folder.proofs.stored_items.pages_of.Goals as goal

pub loop-number-preserved : goal.loop-number-preserved
loop-number-preserved c =
    let pages = items_of c.loop-number.pages.items in
    let now : items_of c.push.new.self.items ≡ pages ++ c.in_ok-page.page.items ∷ [] =
    ap items_of c.in_ok-push.ensures.items ∙ map-append (λ (page : PageState). page.items) c.loop-number.pages.items (c.in_ok-page.page ∷ []) in
    let here : c.loop-number.number ≡ 0 + length pages = omega (arith, c.loop-number.invariant.0) in (
      ap length now ∙ length-append pages (c.in_ok-page.page.items ∷ []) ∙ ap (λ (n : ℕ). n + 1) c.loop-number.invariant.0,
      subst (AreOwn 0) (sym now) (own_snoc 0 pages c.in_ok-page.page.items c.loop-number.invariant.1 (subst (λ (n : ℕ). IsOwn n c.in_ok-page.page.items) here c.in_ok-page.ensures)),
    )

pub join-requires : goal.join-requires
join-requires c =
    let all : c.loop-number.number ≡ page_count = omega (arith, c.loop-number-test.false) in
    (c.loop-number.invariant.0 ∙ all, c.loop-number.invariant.1)
