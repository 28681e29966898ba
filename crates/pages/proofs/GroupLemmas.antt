-- Pages in groups: where a page is, an edit of one, and what is kept of groups that were not written.
use Rattle.std.proofs.Common.{◌≡◌, ◌≢◌, ℕ, zero, suc, ◌+◌, ◌*◌, ◌<◌, ◌/◌, ◌%◌, Bool, true, false, List, [], ◌∷◌, ◌++◌, map, length, take, drop, get_or, set, Result, Ok, Err, OnOk, OnErr, refl, sym, ap, ◌∙◌, arith, subst, true≢false, ◌⊎◌, inl, inr}
use Rattle.std.specs.Prelude.{All, ◌-◌}
use Rattle.std.proofs.Math.Seq.{drop-nil}
use Rattle.std.proofs.lemmas.List.{get_or-set_same, get_or-set_other, get_or_default, set-append_left, set-append_right, set-get_or, get_or-map, length-set, length-map, length-drop, length-take-le, drop-take, take-append-drop, take_all}
use Rattle.std.proofs.Math.ListN.{drop_of_length-le}
use Rattle.std.proofs.lemmas.List.FromFn.{fill_by_all, get_or-map-range_with_len, length-map-range_with_len}
use Rattle.items.specs.Map.{Items}
use Rattle.pages.specs.Page.{PageState, page_count, page_digest_in, sealed_in}
use Rattle.pages.specs.Layout.{digest_in}
use Rattle.pages.specs.Joined.{ArePages, IsSnapshot, joined_pages, items_of}
use Rattle.pages.specs.Group.{pages_in, page_at, page_in_group, no_page, AreLong, AreGroups, IsEditAt, IsKeptPage, AreUnwrittenKept}
use Rattle.pages.specs.declared.layout.Layout.{Layout}
use Rattle.pages.specs.declared.group.TheConstants.{GROUPS, GROUP_PAGES}
use Rattle.pages.proofs.LongLemmas.{place-of, same_or_other, member-in, long-at, long-set, long-all}
use Rattle.pages.proofs.JoinedLemmas.{no_items}
use Rattle.pages.proofs.StateLemmas.{length-states, part-at, items-read, items-set, items-sealed}

abbrev no_pages : List PageState
no_pages = []

-- an edit of page i of group g
pub set-in : (gs : List (List PageState)) (g i : ℕ) (page : PageState) → AreLong gs → i < GROUP_PAGES → pages_in (set gs g (set (get_or gs g []) i page)) ≡ set (pages_in gs) (page_in_group g i) page
set-in [] g i page long l = refl
set-in (x ∷ gs) zero i page long l =
    let same : i ≡ page_in_group 0 i = omega arith in
    sym (set-append_left x (pages_in gs) i page (omega (arith, l, long.0))) ∙ ap (λ (k : ℕ). set (x ++ pages_in gs) k page) same
set-in (x ∷ gs) (suc g) i page long l =
    let past : page_in_group (suc g) i - GROUP_PAGES ≡ page_in_group g i = omega arith in
    ap (λ (ps : List PageState). x ++ ps) (set-in gs g i page long.1 l)
    ∙ sym (set-append_right x (pages_in gs) GROUP_PAGES (page_in_group (suc g) i) page long.0 (omega arith) ∙ ap (λ (k : ℕ). x ++ set (pages_in gs) k page) past)

pub groups-set : (gs : List (List PageState)) (g : ℕ) (x : List PageState) → AreGroups gs → length x ≡ GROUP_PAGES → AreGroups (set gs g x)
groups-set gs g x are one = record { count = length-set gs g x ∙ are.count; each = long-set gs g x are.each one }

-- groups have as many pages as a store
pub length-in : (gs : List (List PageState)) → AreGroups gs → length (pages_in gs) ≡ page_count
length-in gs are = omega (arith, long-all gs are.each, are.count)

-- a group that has the items that it had
pub items-in-set : (gs : List (List PageState)) (g : ℕ) (x : List PageState) → items_of x ≡ items_of (get_or gs g []) → items_of (pages_in (set gs g x)) ≡ items_of (pages_in gs)
items-in-set [] g x same = refl
items-in-set (y ∷ gs) zero x same = items-both x (pages_in gs) ∙ ap (λ (ms : List Items). ms ++ items_of (pages_in gs)) same ∙ sym (items-both y (pages_in gs))
  where
    items-both : (xs ys : List PageState) → items_of (xs ++ ys) ≡ items_of xs ++ items_of ys
    items-both [] ys = refl
    items-both (x ∷ xs) ys = ap (λ (ms : List Items). x.items ∷ ms) (items-both xs ys)
items-in-set (y ∷ gs) (suc g) x same = items-both y (pages_in (set gs g x)) ∙ ap (λ (ms : List Items). items_of y ++ ms) (items-in-set gs g x same) ∙ sym (items-both y (pages_in gs))
  where
    items-both : (xs ys : List PageState) → items_of (xs ++ ys) ≡ items_of xs ++ items_of ys
    items-both [] ys = refl
    items-both (x ∷ xs) ys = ap (λ (ms : List Items). x.items ∷ ms) (items-both xs ys)

-- a page that was set
pub edit-of : (old new : List PageState) (k : ℕ) (page : PageState) → k < length old → new ≡ set old k page → IsEditAt k old new × (page_at new k ≡ page)
edit-of old new k page l is =
    let here : page_at new k ≡ page = ap (λ (ps : List PageState). get_or ps k no_page) is ∙ get_or-set_same old k page no_page l in
    (is ∙ ap (set old k) (sym here), here)

-- a group of which one page was set
pub group-edited : (gs : List (List PageState)) (n : ℕ) (x : List PageState) → AreGroups gs → n < page_count → IsEditAt (n % GROUP_PAGES) (get_or gs (n / GROUP_PAGES) []) x
    → IsEditAt n (pages_in gs) (pages_in (set gs (n / GROUP_PAGES) x)) × (page_at (pages_in (set gs (n / GROUP_PAGES) x)) n ≡ page_at x (n % GROUP_PAGES))
group-edited gs n x are l edit =
    let at = place-of n l in
    edit-of (pages_in gs) (pages_in (set gs (n / GROUP_PAGES) x)) n (page_at x (n % GROUP_PAGES)) (omega (arith, l, length-in gs are))
    (ap (λ (ps : List PageState). pages_in (set gs (n / GROUP_PAGES) ps)) edit ∙ set-in gs (n / GROUP_PAGES) (n % GROUP_PAGES) (page_at x (n % GROUP_PAGES)) are.each at.2
    ∙ ap (λ (k : ℕ). set (pages_in gs) k (page_at x (n % GROUP_PAGES))) at.0)

-- a page that is read of its group
pub page-of : (gs : List (List PageState)) (n : ℕ) (d : PageState) → AreGroups gs → n < page_count → get_or (get_or gs (n / GROUP_PAGES) []) (n % GROUP_PAGES) d ≡ get_or (pages_in gs) n d
page-of gs n d are l =
    let at = place-of n l in
    sym (member-in gs (n / GROUP_PAGES) (n % GROUP_PAGES) d are.each at.2) ∙ ap (λ (k : ℕ). get_or (pages_in gs) k d) at.0

-- a page of a group that was read
pub page-read : (gs : List (List PageState)) (group i : ℕ) (x : List PageState) → AreGroups gs → group < GROUPS → i < GROUP_PAGES → x ≡ get_or gs group x
    → page_at x i ≡ page_at (pages_in gs) (page_in_group group i)
page-read gs group i x are few l read =
    ap (λ (ps : List PageState). get_or ps i no_page) (read ∙ get_or_default gs group x [] (omega (arith, few, are.count))) ∙ sym (member-in gs group i no_page are.each l)

-- after a write the group is marked
pub kept-written : (layout : Layout) (pages new : List PageState) (digests : List (List ℕ)) (written : List Bool) (n : ℕ) → AreUnwrittenKept layout pages digests written → length written ≡ GROUPS
    → n < page_count → IsEditAt n pages new → ArePages (items_of new) → AreUnwrittenKept layout new digests (set written (n / GROUP_PAGES) true)
kept-written layout pages new digests written n kept many l edit are = record { are = are; count = kept.count; same = same }
  where
    at : (page_in_group (n / GROUP_PAGES) (n % GROUP_PAGES) ≡ n) × (n / GROUP_PAGES < GROUPS) × (n % GROUP_PAGES < GROUP_PAGES)
    at = place-of n l

    same : (g i : ℕ) → g < GROUPS → i < GROUP_PAGES → get_or (set written (n / GROUP_PAGES) true) g false ≡ false → IsKeptPage layout (page_at new (page_in_group g i)) (get_or digests (page_in_group g i) [])
    same g i few within not =
        let apart : g ≢ n / GROUP_PAGES = λ e. absurd (true≢false (sym (get_or-set_same written (n / GROUP_PAGES) true false (omega (arith, at.1, many))) ∙ ap (λ (k : ℕ). get_or (set written (n / GROUP_PAGES) true) k false) (sym e) ∙ not)) in
        let other : page_in_group g i ≢ n = λ e. apart (omega (arith, e, within, at.0, at.2)) in
        let was = kept.same g i few within (sym (get_or-set_other written (n / GROUP_PAGES) g true false apart) ∙ not) in
        let still : page_at new (page_in_group g i) ≡ page_at pages (page_in_group g i) =
        ap (λ (ps : List PageState). get_or ps (page_in_group g i) no_page) edit ∙ get_or-set_other pages n (page_in_group g i) (page_at new n) no_page other in
        subst (λ (page : PageState). IsKeptPage layout page (get_or digests (page_in_group g i) [])) (sym still) was

-- after a group was sealed it is no longer marked
pub kept-sealed : (layout : Layout) (pages new : List PageState) (digests all : List (List ℕ)) (written : List Bool) (group : ℕ) → AreUnwrittenKept layout pages digests written
    → ((i : ℕ) → i < GROUP_PAGES → IsKeptPage layout (page_at new (page_in_group group i)) (get_or all (page_in_group group i) []))
    → ((g i : ℕ) → g ≢ group → i < GROUP_PAGES → (page_at new (page_in_group g i) ≡ page_at pages (page_in_group g i)) × (get_or all (page_in_group g i) [] ≡ get_or digests (page_in_group g i) []))
    → items_of new ≡ items_of pages → length all ≡ page_count → AreUnwrittenKept layout new all (set written group false)
kept-sealed layout pages new digests all written group kept sealed others items many = record { are = subst ArePages (sym items) kept.are; count = many; same = same }
  where
    same : (g i : ℕ) → g < GROUPS → i < GROUP_PAGES → get_or (set written group false) g false ≡ false → IsKeptPage layout (page_at new (page_in_group g i)) (get_or all (page_in_group g i) [])
    same g i few within not = by (same_or_other g group)
      where
        by : (g ≡ group) ⊎ (g ≢ group) → IsKeptPage layout (page_at new (page_in_group g i)) (get_or all (page_in_group g i) [])
        by (inl e) = subst (λ (k : ℕ). IsKeptPage layout (page_at new (page_in_group k i)) (get_or all (page_in_group k i) [])) (sym e) (sealed i within)
        by (inr other) =
            let was = kept.same g i few within (sym (get_or-set_other written group g false false other) ∙ not) in
            let still = others g i other within in
            (ap (λ (page : PageState). page.layout) still.0 ∙ was.0, ap (λ (page : PageState). page.sealed) still.0 ∙ was.1, still.1 ∙ was.2 ∙ ap (λ (page : PageState). digest_in layout page.items) (sym still.0))

-- no group is marked
pub kept-all : (layout : Layout) (pages : List PageState) (digests : List (List ℕ)) (written : List Bool) → AreUnwrittenKept layout pages digests written
    → ((g : ℕ) → g < GROUPS → get_or written g false ≡ false) → AreUnwrittenKept layout pages digests []
kept-all layout pages digests written kept none = record { are = kept.are; count = kept.count; same = λ g i few within not. kept.same g i few within (none g few) }

pub kept-none : (layout : Layout) (pages : List PageState) (digests : List (List ℕ)) (written : List Bool) → AreUnwrittenKept layout pages digests [] → AreUnwrittenKept layout pages digests written
kept-none layout pages digests written kept = record { are = kept.are; count = kept.count; same = λ g i few within not. kept.same g i few within refl }

-- a page of those of which no group is marked
kept-at : (layout : Layout) (pages : List PageState) (digests : List (List ℕ)) → AreUnwrittenKept layout pages digests [] → (k : ℕ) → k < page_count → IsKeptPage layout (page_at pages k) (get_or digests k [])
kept-at layout pages digests kept k l =
    let at = place-of k l in
    subst (λ (n : ℕ). IsKeptPage layout (page_at pages n) (get_or digests n [])) at.0 (kept.same (k / GROUP_PAGES) (k % GROUP_PAGES) at.1 at.2 refl)

-- pages of which no group is marked are those of a snapshot
pub snapshot-from_kept : (layout : Layout) (pages : List PageState) (digests : List (List ℕ)) → AreUnwrittenKept layout pages digests [] → IsSnapshot layout pages digests
snapshot-from_kept layout pages digests kept = record {
  sealed = record { are = kept.are; laid = laid; digests = told };
  told = fill_by_all (page_digest_in layout (joined_pages (items_of pages))) digests page_count [] kept.count
      (λ k l. (kept-at layout pages digests kept k l).2 ∙ ap (digest_in layout) (part-at pages k (page_at pages k) kept.are l (read k l)));
}
  where
    count : length pages ≡ page_count
    count = length-states pages kept.are

    read : (k : ℕ) → k < page_count → page_at pages k ≡ get_or pages k (page_at pages k)
    read k l = get_or_default pages k no_page (page_at pages k) (omega (arith, l, count))

    laid : All (λ page. page.layout ≡ layout) pages
    laid k d l = ap (λ (page : PageState). page.layout) (get_or_default pages k d no_page l) ∙ (kept-at layout pages digests kept k (omega (arith, l, count))).0

    told : All (λ page. page.sealed ≡ true) pages
    told k d l = ap (λ (page : PageState). page.sealed) (get_or_default pages k d no_page l) ∙ (kept-at layout pages digests kept k (omega (arith, l, count))).1

-- and the other way round
pub kept-from_snapshot : (layout : Layout) (pages : List PageState) (digests : List (List ℕ)) → IsSnapshot layout pages digests → AreUnwrittenKept layout pages digests []
kept-from_snapshot layout pages digests snapshot = record {
  are = snapshot.sealed.are;
  count = ap length snapshot.told ∙ length-map-range_with_len (page_digest_in layout (joined_pages (items_of pages))) 0 page_count;
  same = same;
}
  where
    count : length pages ≡ page_count
    count = length-states pages snapshot.sealed.are

    same : (g i : ℕ) → g < GROUPS → i < GROUP_PAGES → false ≡ false → IsKeptPage layout (page_at pages (page_in_group g i)) (get_or digests (page_in_group g i) [])
    same g i few within not =
        let l : page_in_group g i < page_count = omega (arith, few, within) in
        let k = page_in_group g i in
        let read : page_at pages k ≡ get_or pages k (page_at pages k) = get_or_default pages k no_page (page_at pages k) (omega (arith, l, count)) in (
          snapshot.sealed.laid k no_page (omega (arith, l, count)),
          snapshot.sealed.digests k no_page (omega (arith, l, count)),
          ap (λ (ds : List (List ℕ)). get_or ds k []) snapshot.told ∙ get_or-map-range_with_len (page_digest_in layout (joined_pages (items_of pages))) 0 page_count k k [] l (omega arith)
              ∙ ap (digest_in layout) (sym (part-at pages k (page_at pages k) snapshot.sealed.are l read)),
        )

-- A group was brought into a layout, and its digests are set: each of its pages is kept, and all others are as they were.
pub record IsGroupSealed (layout : Layout) (group : ℕ) (old new : List PageState) (before after : List (List ℕ)) : Type 0 where
  pub sealed : (i : ℕ) → i < GROUP_PAGES → IsKeptPage layout (page_at new (page_in_group group i)) (get_or after (page_in_group group i) [])
  pub others : (g i : ℕ) → g ≢ group → i < GROUP_PAGES → (page_at new (page_in_group g i) ≡ page_at old (page_in_group g i)) × (get_or after (page_in_group g i) [] ≡ get_or before (page_in_group g i) [])
  pub items : items_of new ≡ items_of old

pub group-sealed : (layout : Layout) (gs : List (List PageState)) (group : ℕ) (x : List PageState) (before after : List (List ℕ)) → AreGroups gs → group < GROUPS
    → x ≡ map (sealed_in layout) (get_or gs group [])
    → ((i : ℕ) → i < GROUP_PAGES → get_or after (page_in_group group i) [] ≡ digest_in (page_at x i).layout (page_at x i).items)
    → ((g i : ℕ) → g ≢ group → i < GROUP_PAGES → get_or after (page_in_group g i) [] ≡ get_or before (page_in_group g i) [])
    → IsGroupSealed layout group (pages_in gs) (pages_in (set gs group x)) before after
group-sealed layout gs group x before after are few is own apart = record {
  sealed = sealed;
  others = others;
  items = items-in-set gs group x (ap items_of is ∙ items-sealed layout (get_or gs group []));
}
  where
    long : length (get_or gs group []) ≡ GROUP_PAGES
    long = long-at gs group are.each (omega (arith, few, are.count))

    are_new : AreGroups (set gs group x)
    are_new = groups-set gs group x are (ap length is ∙ length-map (get_or gs group []) (sealed_in layout) ∙ long)

    in_place : (i : ℕ) → i < GROUP_PAGES → page_at (pages_in (set gs group x)) (page_in_group group i) ≡ page_at x i
    in_place i l = member-in (set gs group x) group i no_page are_new.each l ∙ ap (λ (ps : List PageState). get_or ps i no_page) (get_or-set_same gs group x [] (omega (arith, few, are.count)))

    is_sealed : (i : ℕ) → i < GROUP_PAGES → page_at x i ≡ sealed_in layout (page_at (get_or gs group []) i)
    is_sealed i l = ap (λ (ps : List PageState). get_or ps i no_page) is ∙ get_or-map (sealed_in layout) (get_or gs group []) i no_page no_page (omega (arith, l, long))

    sealed : (i : ℕ) → i < GROUP_PAGES → IsKeptPage layout (page_at (pages_in (set gs group x)) (page_in_group group i)) (get_or after (page_in_group group i) [])
    sealed i l =
        let whole = in_place i l ∙ is_sealed i l in (
          ap (λ (p : PageState). p.layout) whole,
          ap (λ (p : PageState). p.sealed) whole,
          own i l ∙ ap (λ (kind : Layout). digest_in kind (page_at x i).items) (ap (λ (p : PageState). p.layout) (is_sealed i l))
              ∙ ap (λ (p : PageState). digest_in layout p.items) (sym (in_place i l)),
        )

    others : (g i : ℕ) → g ≢ group → i < GROUP_PAGES
        → (page_at (pages_in (set gs group x)) (page_in_group g i) ≡ page_at (pages_in gs) (page_in_group g i)) × (get_or after (page_in_group g i) [] ≡ get_or before (page_in_group g i) [])
    others g i other l = (
      member-in (set gs group x) g i no_page are_new.each l ∙ ap (λ (ps : List PageState). get_or ps i no_page) (get_or-set_other gs group g x [] other) ∙ sym (member-in gs g i no_page are.each l),
      apart g i other l,
    )

-- the last pages become one group more
pub last-group : (pages : List PageState) (a : ℕ) (rest last : List PageState) → rest ≡ take (a + GROUP_PAGES) pages → last ≡ drop a rest → last ++ drop (a + GROUP_PAGES) pages ≡ drop a pages
last-group pages a rest last is cut =
    ap (λ (ps : List PageState). ps ++ drop (a + GROUP_PAGES) pages) (cut ∙ ap (drop a) is ∙ drop-take a GROUP_PAGES pages)
    ∙ ap (λ (ps : List PageState). take GROUP_PAGES (drop a pages) ++ ps) (drop-more a pages) ∙ take-append-drop GROUP_PAGES (drop a pages)
  where
    drop-more : (a : ℕ) (ps : List PageState) → drop (a + GROUP_PAGES) ps ≡ drop GROUP_PAGES (drop a ps)
    drop-more zero ps = refl
    drop-more (suc a) [] = drop-nil (suc a + GROUP_PAGES)
    drop-more (suc a) (p ∷ ps) =
        let same : suc a + GROUP_PAGES ≡ suc (a + GROUP_PAGES) = omega arith in
        ap (λ (k : ℕ). drop k (p ∷ ps)) same ∙ drop-more a ps

pub fewer : (pages rest : List PageState) (a : ℕ) → rest ≡ take (a + GROUP_PAGES) pages → take a rest ≡ take a pages
fewer pages rest a is = ap (take a) is ∙ shorter a pages
  where
    take_none : (k : ℕ) → take k no_pages ≡ no_pages
    take_none zero = refl
    take_none (suc k) = refl

    shorter : (a : ℕ) (ps : List PageState) → take a (take (a + GROUP_PAGES) ps) ≡ take a ps
    shorter zero ps = refl
    shorter (suc a) [] = ap (take (suc a)) (take_none (suc a + GROUP_PAGES))
    shorter (suc a) (p ∷ ps) =
        let same : suc a + GROUP_PAGES ≡ suc (a + GROUP_PAGES) = omega arith in
        ap (λ (k : ℕ). take (suc a) (take k (p ∷ ps))) same ∙ ap (λ (qs : List PageState). p ∷ qs) (shorter a ps)

-- an edit of one page, which may be refused, as that of all pages
pub edited-whole : {E : Type 0} (r : Result (Unit {0}) E) (pages new : List PageState) (i n : ℕ) (edit : Items → Items) (whole : Items)
    → ArePages (items_of pages) → i ≡ n → i < page_count → OnOk r (IsEditAt i pages new) → OnOk r ((page_at new i).items ≡ edit (page_at pages i).items) → OnErr r (new ≡ pages)
    → ArePages (set (items_of pages) n (edit (get_or (items_of pages) n no_items))) × (joined_pages (set (items_of pages) n (edit (get_or (items_of pages) n no_items))) ≡ whole)
    → IsEditAt i pages new × ArePages (items_of new) × OnOk r (joined_pages (items_of new) ≡ whole)
edited-whole {E = E} r pages new i n edit whole a at l others ok err done = by r others ok err
  where
    here : (page_at pages i).items ≡ get_or (items_of pages) n no_items
    here = items-read pages i n (page_at pages i) a at l (get_or_default pages i no_page (page_at pages i) (omega (arith, l, length-states pages a)))

    by : (r : Result (Unit {0}) E) → OnOk r (IsEditAt i pages new) → OnOk r ((page_at new i).items ≡ edit (page_at pages i).items) → OnErr r (new ≡ pages)
        → IsEditAt i pages new × ArePages (items_of new) × OnOk r (joined_pages (items_of new) ≡ whole)
    by (Ok x) others ok err =
        let same : items_of new ≡ set (items_of pages) n (edit (get_or (items_of pages) n no_items)) =
        ap items_of others ∙ items-set pages i (page_at new i) ∙ (λ j. set (items_of pages) (at j) ((ok ∙ ap edit here) j)) in
        (others, subst ArePages (sym same) done.0, ap joined_pages same ∙ done.1)
    by (Err e) others ok err = (
      err ∙ sym (set-get_or pages i no_page) ∙ ap (λ (ps : List PageState). set pages i (get_or ps i no_page)) (sym err),
      subst (λ (ps : List PageState). ArePages (items_of ps)) (sym err) a,
      tt,
    )

-- The last pages are in groups, and so many groups are left.
pub record IsGrouped (pages rest : List PageState) (gs : List (List PageState)) (left : ℕ) : Type 0 where
  pub before : rest ≡ take (GROUP_PAGES * left) pages
  pub after : pages_in gs ≡ drop (GROUP_PAGES * left) pages
  pub long : AreLong gs
  pub count : length gs + left ≡ GROUPS

pub grouped-none : (pages : List PageState) → length pages ≡ page_count → IsGrouped pages pages [] GROUPS
grouped-none pages many = record {
  before = sym (take_all (GROUP_PAGES * GROUPS) pages (omega (arith, many)));
  after = sym (drop_of_length-le pages {i = GROUP_PAGES * GROUPS} (omega (arith, many)));
  long = tt;
  count = refl;
}

pub grouped-long : (pages rest : List PageState) (gs : List (List PageState)) (left : ℕ) → IsGrouped pages rest gs left → length pages ≡ page_count → length rest ≡ GROUP_PAGES * left
grouped-long pages rest gs left so_far many = ap length so_far.before ∙ length-take-le (GROUP_PAGES * left) pages (omega (arith, many, so_far.count))

-- one group more
pub grouped-next : (pages rest new last group : List PageState) (gs : List (List PageState)) (more less at : ℕ) → IsGrouped pages rest gs more → length pages ≡ page_count
    → less + 1 ≡ more → at ≡ GROUP_PAGES * less → new ≡ take at rest → last ≡ drop at rest → group ≡ last → IsGrouped pages new (group ∷ gs) less
grouped-next pages rest new last group gs more less at so_far many one is_at front cut is = record {
  before = front ∙ ap (λ (k : ℕ). take k rest) is_at ∙ fewer pages rest (GROUP_PAGES * less) whole;
  after = ap (λ (ps : List PageState). ps ++ pages_in gs) is ∙ ap (λ (ps : List PageState). last ++ ps) (so_far.after ∙ ap (λ (k : ℕ). drop k pages) next) ∙ last-group pages (GROUP_PAGES * less) rest last whole back;
  long = (ap length is ∙ ap length back ∙ length-drop (GROUP_PAGES * less) rest ∙ omega (arith, grouped-long pages rest gs more so_far many, one), so_far.long);
  count = omega (arith, so_far.count, one);
}
  where
    back : last ≡ drop (GROUP_PAGES * less) rest
    back = cut ∙ ap (λ (k : ℕ). drop k rest) is_at

    next : GROUP_PAGES * more ≡ GROUP_PAGES * less + GROUP_PAGES
    next = omega (arith, one)

    whole : rest ≡ take (GROUP_PAGES * less + GROUP_PAGES) pages
    whole = so_far.before ∙ ap (λ (k : ℕ). take k pages) next
