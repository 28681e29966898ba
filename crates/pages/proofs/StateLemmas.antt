-- Pages with what is kept of their digests: what they contain, and an edit of one of them.
use Rattle.std.proofs.Common.{◌≡◌, ℕ, zero, suc, ◌+◌, ◌<◌, ◌≤◌, Bool, List, [], ◌∷◌, ◌++◌, map, length, take, drop, get_or, set, Result, Ok, Err, OnOk, OnErr, refl, sym, ap, ◌∙◌, arith, subst, inl, inr}
use Rattle.std.specs.FinMap.{entries}
use Rattle.std.proofs.Math.Nat.{eq-or-lt_of_le}
use Rattle.std.proofs.lemmas.List.{get_or-set_same, get_or-set_other, map-set, set-get_or, get_or-map, length-map, take_more, map_push}
use Rattle.base.proofs.ListLemmas.{next-same, next-changed}
use Rattle.items.specs.Map.{Items}
use Rattle.pages.specs.Page.{PageState, page_count, page_entries, page_items, page_digest_in, sealed_in}
use Rattle.pages.specs.Layout.{digest_in}
use Rattle.pages.specs.declared.layout.Layout.{Layout}
use Rattle.pages.specs.Joined.{ArePages, AreSealed, joined_pages, items_of}
use Rattle.pages.proofs.JoinedLemmas.{no_items, pages-set, own-page}
use Rattle.pages.proofs.PartLemmas.{page-entries, page-items}

pub items-set : (pages : List PageState) (i : ℕ) (page : PageState) → items_of (set pages i page) ≡ set (items_of pages) i page.items
items-set pages i page = map-set (λ (a : PageState). a.items) pages i page

-- a page that was set as it is
pub set-same : (pages : List PageState) (i : ℕ) (page new : PageState) → new ≡ page → page ≡ get_or pages i page → set pages i new ≡ pages
set-same pages i page new same read = ap (set pages i) (same ∙ read) ∙ set-get_or pages i page

-- there are as many as a store has
pub length-states : (pages : List PageState) → ArePages (items_of pages) → length pages ≡ page_count
length-states pages a = sym (length-map pages (λ (a : PageState). a.items)) ∙ a.0

-- the items of a page that was read
pub items-at : (pages : List PageState) (i : ℕ) (page : PageState) → i < length pages → page ≡ get_or pages i page → page.items ≡ get_or (items_of pages) i no_items
items-at pages i page l e = ap (λ (a : PageState). a.items) e ∙ sym (get_or-map (λ (a : PageState). a.items) pages i page no_items l)

pub items-read : (pages : List PageState) (i n : ℕ) (page : PageState) → ArePages (items_of pages) → i ≡ n → i < page_count → page ≡ get_or pages i page
    → page.items ≡ get_or (items_of pages) n no_items
items-read pages i n page a at l read =
    items-at pages i page (omega (arith, l, length-states pages a)) read ∙ ap (λ (k : ℕ). get_or (items_of pages) k no_items) at

-- the entries of a page that was read
pub page-at : (pages : List PageState) (i : ℕ) (page : PageState) → ArePages (items_of pages) → i < page_count → page ≡ get_or pages i page
    → entries page.items ≡ page_entries (joined_pages (items_of pages)) i
page-at pages i page a l read =
    ap entries (items-at pages i page (omega (arith, l, length-states pages a)) read) ∙ page-entries (items_of pages) i a

-- the items of a page that was read, as a part of the whole
pub part-at : (pages : List PageState) (i : ℕ) (page : PageState) → ArePages (items_of pages) → i < page_count → page ≡ get_or pages i page
    → page.items ≡ page_items (joined_pages (items_of pages)) i
part-at pages i page a l read = items-at pages i page (omega (arith, l, length-states pages a)) read ∙ page-items (items_of pages) i a

-- its layout
pub laid-at : (layout : Layout) (pages : List PageState) (i : ℕ) (page : PageState) → AreSealed layout pages → i < page_count → page ≡ get_or pages i page → page.layout ≡ layout
laid-at layout pages i page sealed l read =
    ap (λ (a : PageState). a.layout) read ∙ sealed.laid i page (omega (arith, l, length-states pages sealed.are))

-- its digest
pub digest-at : (layout : Layout) (pages : List PageState) (i : ℕ) (page : PageState) → AreSealed layout pages → i < page_count → page ≡ get_or pages i page
    → digest_in page.layout page.items ≡ page_digest_in layout (joined_pages (items_of pages)) i
digest-at layout pages i page sealed l read = λ j. digest_in (laid-at layout pages i page sealed l read j) (part-at pages i page sealed.are l read j)

-- after an edit of each page before i, and now of page i
pub next-edited : (f : Items → Items) (all : List Items) (pages : List PageState) (i : ℕ) (page new : PageState)
    → items_of pages ≡ map f (take i all) ++ drop i all → i < length pages → i < length all → page ≡ get_or pages i page → new.items ≡ f (get_or pages i page).items
    → items_of (set pages i new) ≡ map f (take (i + 1) all) ++ drop (i + 1) all
next-edited f all pages i page new so_far within more read is =
    let at : page.items ≡ get_or all i no_items =
    items-at pages i page within read ∙ ap (λ (ms : List Items). get_or ms i no_items) so_far ∙ next-same f all i no_items more in
    items-set pages i new ∙ (λ j. set (so_far j) i ((is ∙ ap (λ (a : PageState). f a.items) (sym read) ∙ ap f at) j)) ∙ next-changed f all i no_items more

-- after an edit of each page
pub all-edited : (f : Items → Items) (all : List Items) (i : ℕ) → length all ≤ i → map f (take i all) ++ drop i all ≡ map f all
all-edited f [] zero l = refl
all-edited f [] (suc i) l = refl
all-edited f (m ∷ all) zero l = absurd (omega arith)
all-edited f (m ∷ all) (suc i) l = ap (λ (ms : List Items). f m ∷ ms) (all-edited f all i (omega arith))

-- pages that were brought into a layout contain what they did
pub items-sealed : (layout : Layout) (pages : List PageState) → items_of (map (sealed_in layout) pages) ≡ items_of pages
items-sealed layout [] = refl
items-sealed layout (page ∷ pages) = ap (λ (ms : List Items). page.items ∷ ms) (items-sealed layout pages)

-- the same of pages that came of it
pub still-items : (layout : Layout) (pages new : List PageState) → new ≡ map (sealed_in layout) pages → items_of new ≡ items_of pages
still-items layout pages new is = ap items_of is ∙ items-sealed layout pages

-- and are all in it
pub all-sealed : (layout : Layout) (pages new : List PageState) → ArePages (items_of pages) → new ≡ map (sealed_in layout) pages → AreSealed layout new
all-sealed layout pages new a is = subst (AreSealed layout) (sym is) (record {
  are = subst ArePages (sym (items-sealed layout pages)) a;
  laid = λ k d l. ap (λ (page : PageState). page.layout) (get_or-map (sealed_in layout) pages k d d (omega (arith, l, length-map pages (sealed_in layout))));
  digests = λ k d l. ap (λ (page : PageState). page.sealed) (get_or-map (sealed_in layout) pages k d d (omega (arith, l, length-map pages (sealed_in layout))));
})

-- the items of a page that was set
pub ok-items : {E : Type 0} (r : Result (Unit {0}) E) (new : PageState) (m : Items) (layout : Layout) (sealed : Bool) → OnOk r (new ≡ record { items = m; layout = layout; sealed = sealed }) → OnOk r (new.items ≡ m)
ok-items (Ok x) new m layout sealed ok = ap (λ (page : PageState). page.items) ok
ok-items (Err e) new m layout sealed ok = tt

-- an edit of one page, which may be refused
pub edit-page : {E : Type 0} (r : Result (Unit {0}) E) (pages : List PageState) (i n : ℕ) (old new : PageState) (edit : Items → Items) (whole : Items)
    → ArePages (items_of pages) → i ≡ n → i < page_count → old ≡ get_or pages i old
    → OnOk r (new.items ≡ edit old.items) → OnErr r (new ≡ old)
    → ArePages (set (items_of pages) n (edit (get_or (items_of pages) n no_items))) × (joined_pages (set (items_of pages) n (edit (get_or (items_of pages) n no_items))) ≡ whole)
    → ArePages (items_of (set pages i new)) × OnOk r (joined_pages (items_of (set pages i new)) ≡ whole)
edit-page {E = E} r pages i n old new edit whole a at l read ok err done = by r ok err
  where
    here : old.items ≡ get_or (items_of pages) n no_items
    here = items-read pages i n old a at l read

    by : (r : Result (Unit {0}) E) → OnOk r (new.items ≡ edit old.items) → OnErr r (new ≡ old)
        → ArePages (items_of (set pages i new)) × OnOk r (joined_pages (items_of (set pages i new)) ≡ whole)
    by (Ok x) ok err =
        let same : items_of (set pages i new) ≡ set (items_of pages) n (edit (get_or (items_of pages) n no_items)) =
        items-set pages i new ∙ (λ j. set (items_of pages) (at j) ((ok ∙ ap edit here) j)) in
        (subst ArePages (sym same) done.0, ap joined_pages same ∙ done.1)
    by (Err e) ok err =
        let same : items_of (set pages i new) ≡ set (items_of pages) n (get_or (items_of pages) n no_items) =
        items-set pages i new ∙ (λ j. set (items_of pages) (at j) ((ap (λ (a : PageState). a.items) err ∙ here) j)) in
        (subst ArePages (sym same) (pages-set (items_of pages) n (get_or (items_of pages) n no_items) a (own-page (items_of pages) n a)), tt)

-- nothing changes in the pages before page i, and now nothing in page i
pub none-edited : (f : Items → Items) (all : List PageState) (i : ℕ) (page : PageState) → i < length all → page ≡ get_or all i page → f page.items ≡ page.items
    → map f (take i (items_of all)) ≡ take i (items_of all) → map f (take (i + 1) (items_of all)) ≡ take (i + 1) (items_of all)
none-edited f all i page l read same so_far =
    let more : take (i + 1) (items_of all) ≡ take i (items_of all) ++ page.items ∷ [] =
    take_more (items_of all) i no_items (omega (arith, l, length-map all (λ (a : PageState). a.items))) ∙ ap (λ m. take i (items_of all) ++ m ∷ []) (sym (items-at all i page l read)) in
    ap (map f) more ∙ map_push f (take i (items_of all)) page.items ∙ (λ j. so_far j ++ same j ∷ []) ∙ sym more

-- one value more is in its place
pub next-value : (f : ℕ → List ℕ) (xs : List (List ℕ)) (i : ℕ) (x : List ℕ) → i < length xs → x ≡ f i → ((k : ℕ) → k < i → get_or xs k [] ≡ f k)
    → (k : ℕ) → k < i + 1 → get_or (set xs i x) k [] ≡ f k
next-value f xs i x within is so_far k l =
    let most : k ≤ i = omega (arith, l) in
    elim (eq-or-lt_of_le most) [
      | inl e ↦ ap (λ (n : ℕ). get_or (set xs i x) n []) e ∙ get_or-set_same xs i x [] within ∙ is ∙ ap f (omega (arith, e))
      | inr h ↦ get_or-set_other xs i k x [] (λ e. omega (arith, e, h)) ∙ so_far k h
    ]
