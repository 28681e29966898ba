use Rattle.std.proofs.Common.{◌≡◌, ℕ, ◌+◌, List, [], ◌∷◌, ◌++◌, length, refl, arith, ap, ◌∙◌, sym}
use Rattle.std.proofs.lemmas.List.{append-nil, map-append, length-map}
use Rattle.std.proofs.lemmas.List.FromFn.{length-map-range_with_len}
use Rattle.items.specs.Map.{Items}
use Rattle.pages.specs.Page.{page_count, page_items, PageState}
use Rattle.pages.specs.Joined.{items_of, parts}
use Rattle.round.specs.Tickets.{maker}
use Rattle.round.proofs.Lists.{at_range}
use Rattle.round.proofs.open.lock_pages.Goals as goal

pub new-requires-clause-page : goal.new-requires-clause-page
new-requires-clause-page g c =
    let i = c.loop-page.invariant in
    let steps = ap (λ l. items_of (c.loop-page.yielded ++ l)) c.in-Some.ensures.steps.0 in
    let all = sym (map-append (λ (p : PageState). p.items) c.loop-page.yielded _) ∙ sym steps ∙ i.5 in
    let r = at_range (page_items g.J.Room.opening) page_count 0 (items_of c.loop-page.yielded) c.in-Some.page.items _ all in
    let n : length (items_of c.loop-page.yielded) ≡ length c.loop-page.yielded = length-map c.loop-page.yielded (λ (p : PageState). p.items) in
    let at : 0 + length (items_of c.loop-page.yielded) ≡ c.len.result = omega arith in
    r.0 ∙ ap (page_items g.J.Room.opening) at

empty_is : (pages : List PageState) → length pages ≡ 0 → pages ≡ []
empty_is [] e = refl
empty_is (p ∷ pages) e = absurd (omega arith)

-- all pages have come: there are as many as a store has
all_came : (opening : Items) (came rest : List PageState) → items_of (came ++ rest) ≡ parts opening → rest ≡ [] → length came ≡ page_count
all_came opening came rest all none =
    let whole : came ++ rest ≡ came = ap (λ (pages : List PageState). came ++ pages) none ∙ append-nil came in
    sym (length-map came (λ (p : PageState). p.items)) ∙ ap (λ (pages : List PageState). length (items_of pages)) (sym whole) ∙ ap length all ∙ length-map-range_with_len (page_items opening) 0 page_count

pub loop-page-init : goal.loop-page-init
loop-page-init g c =
    let items = ap items_of c.into_iter-page-iterator.ensures.into_iter_gives.0 ∙ c.in_ok-parts.ensures ∙ ap parts c.requires.pages in
    (tt, tt, c.requires.master.0, c.requires.master.1, c.in_ok-locks.ensures.len, items)

pub returns-clause-master : goal.returns-clause-master
returns-clause-master g c =
    let i = c.loop-page.invariant in
    let all = all_came g.J.Room.opening c.loop-page.yielded c.loop-page.page-iterator.rest.items i.5 (empty_is c.loop-page.page-iterator.rest.items (omega (arith, c.in-None.ensures.steps.0, c.loop-page.page-iterator.rest.ok))) in
    (i.2, i.3 ∙ ap (λ (n : ℕ). (maker n, [])) all)

pub returns-clause-all : goal.returns-clause-all
returns-clause-all g c =
    let i = c.loop-page.invariant in
    i.4 ∙ all_came g.J.Room.opening c.loop-page.yielded c.loop-page.page-iterator.rest.items i.5 (empty_is c.loop-page.page-iterator.rest.items (omega (arith, c.in-None.ensures.steps.0, c.loop-page.page-iterator.rest.ok)))
