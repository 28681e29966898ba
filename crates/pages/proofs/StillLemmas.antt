-- Moments at which nothing is due in pages, and how many items groups of pages have.
use Rattle.std.proofs.Common.{◌≡◌, ℕ, ◌+◌, ◌<◌, ◌≤◌, Bool, true, false, cond, List, [], ◌∷◌, ◌++◌, take, length, get_or, Option, Some, None, true≢false, refl, sym, ap, ◌∙◌, arith, subst, ⊎_elim}
use Rattle.std.specs.Prelude.{nat_lt}
use Rattle.std.specs.Option.{option_map_or}
use Rattle.std.specs.FinMap.{get}
use Rattle.std.proofs.lemmas.Bool.Decides.{nat_tests}
use Rattle.std.proofs.lemmas.List.{get_or_default, get_or-map, take_more, flat_map_more}
use Rattle.std.proofs.lemmas.Map.Entries.{option_filter}
use Rattle.items.specs.declared.item.Item.{Item}
use Rattle.items.specs.Map.{Items, alive, is_alive}
use Rattle.items.proofs.AliveLemmas.{get-alive}
use Rattle.pages.specs.Page.{PageState, page_count, item_count}
use Rattle.pages.specs.Joined.{items_of}
use Rattle.pages.specs.Others.{has_page, AreWithin}
use Rattle.pages.specs.Group.{pages_in, page_at, page_in_group, no_page}
use Rattle.pages.specs.Known.{IsStill, AreStill}
use Rattle.pages.specs.declared.group.TheConstants.{GROUPS, GROUP_PAGES}
use Rattle.pages.proofs.KeyLemmas.{all_keys}
use Rattle.pages.proofs.JoinedLemmas.{no_items}
use Rattle.pages.proofs.CountLemmas.{count-more}
use Rattle.pages.proofs.LongLemmas.{place-of, same_or_other}

-- ---- moments

module _ (later moment : ℕ) (early : moment ≤ later) where
  -- an item that is alive at a moment is so at each earlier one
  alive-earlier : (item : Item) (due : Option ℕ) → cond (option_map_or (λ d. nat_lt later d) due true) (Some item) None ≡ Some item
      → cond (option_map_or (λ d. nat_lt moment d) due true) (Some item) None ≡ Some item
  alive-earlier item None e = refl
  alive-earlier item (Some d) e = by (nat_lt later d) refl e
    where
      by : (b : Bool) → nat_lt later d ≡ b → cond b (Some item) None ≡ Some item → cond (nat_lt moment d) (Some item) None ≡ Some item
      by true t found =
          let yes : nat_lt moment d ≡ true = grind (arith, nat_tests) in
          ap (λ (b : Bool). cond b (Some item) None) yes
      by false f found = absurd (cc found)

  kept-earlier : (found : Option Item) → option_filter (is_alive later) found ≡ found → option_filter (is_alive moment) found ≡ found
  kept-earlier None e = refl
  kept-earlier (Some item) e = alive-earlier item item.due e

  -- so if nothing is due at a moment, nothing is at an earlier one
  pub still-earlier : (m : Items) → alive m later ≡ m → alive m moment ≡ m
  still-earlier m still = all_keys (alive m moment) m (λ q.
      get-alive m moment q ∙ kept-earlier (get m q) (sym (get-alive m later q) ∙ ap (λ (n : Items). get n q) still))

  pub all-still-earlier : (pages : List PageState) → AreStill later pages → AreStill moment pages
  all-still-earlier pages still i l = still-earlier (page_at pages i).items (still i l)

-- a page that was read
pub still-read : (pages : List PageState) (moment n : ℕ) (page : PageState) → n < length pages → page ≡ get_or pages n page → alive page.items moment ≡ page.items → IsStill moment (page_at pages n)
still-read pages moment n page l read still = subst (λ (p : PageState). IsStill moment p) (read ∙ get_or_default pages n page no_page l) still

-- one page more
pub still-next : (pages : List PageState) (moment n : ℕ) → ((k : ℕ) → k < n → IsStill moment (page_at pages k)) → IsStill moment (page_at pages n)
    → (k : ℕ) → k < n + 1 → IsStill moment (page_at pages k)
still-next pages moment n so_far here k l =
    ⊎_elim (λ e. subst (λ (j : ℕ). IsStill moment (page_at pages j)) (sym e) here) (λ other. so_far k (omega (arith, l, other))) (same_or_other k n)

-- one group more
pub groups-still-next : (pages : List PageState) (moment n : ℕ) → ((g i : ℕ) → g < n → i < GROUP_PAGES → IsStill moment (page_at pages (page_in_group g i)))
    → ((i : ℕ) → i < GROUP_PAGES → IsStill moment (page_at pages (page_in_group n i))) → (g i : ℕ) → g < n + 1 → i < GROUP_PAGES → IsStill moment (page_at pages (page_in_group g i))
groups-still-next pages moment n so_far here g i l m =
    ⊎_elim (λ e. subst (λ (j : ℕ). IsStill moment (page_at pages (page_in_group j i))) (sym e) (here i m)) (λ other. so_far g i (omega (arith, l, other)) m) (same_or_other g n)

-- all groups
pub still-page : (pages : List PageState) (moment : ℕ) → ((g i : ℕ) → g < GROUPS → i < GROUP_PAGES → IsStill moment (page_at pages (page_in_group g i)))
    → (p : ℕ) → p < page_count → IsStill moment (page_at pages p)
still-page pages moment all p l =
    let at = place-of p l in
    subst (λ (k : ℕ). IsStill moment (page_at pages k)) at.0 (all _ _ at.1 at.2)

pub still-items : (pages : List PageState) (moment p : ℕ) → p < length pages → IsStill moment (page_at pages p) → alive (get_or (items_of pages) p no_items) moment ≡ get_or (items_of pages) p no_items
still-items pages moment p l still = subst (λ (m : Items). alive m moment ≡ m) (sym (get_or-map (λ (a : PageState). a.items) pages p no_page no_items l)) still

-- ---- sets of pages

not-before : (old new : List Bool) (p : ℕ) → AreWithin old new → has_page new p ≡ false → has_page old p ≡ false
not-before old new p within out = by (has_page old p) refl
  where
    by : (b : Bool) → has_page old p ≡ b → has_page old p ≡ false
    by true there = absurd (true≢false (sym (within p there) ∙ out))
    by false e = e

-- The first pages of a group that are not in the set are still.
pub record AreAdded (pages : List PageState) (moment first n : ℕ) (start due : List Bool) : Type 0 where
  pub within : AreWithin start due
  pub still : (i : ℕ) → i < n → has_page due (first + i) ≡ false → IsStill moment (page_at pages i)

-- one page more
pub added-next : (pages : List PageState) (moment first n : ℕ) (start old new : List Bool) → AreAdded pages moment first n start old → AreWithin old new
    → (has_page new (first + n) ≡ false → IsStill moment (page_at pages n)) → AreAdded pages moment first (n + 1) start new
added-next pages moment first n start old new so_far more here = record {
  within = λ p there. more p (so_far.within p there);
  still = λ i l out. ⊎_elim
      (λ e. subst (λ (j : ℕ). IsStill moment (page_at pages j)) (sym e) (here (ap (λ (j : ℕ). has_page new (first + j)) (sym e) ∙ out)))
      (λ other. so_far.still i (omega (arith, l, other)) (not-before old new (first + i) more out))
      (same_or_other i n);
}

-- one group more
pub groups-added-next : (pages : List PageState) (moment n : ℕ) (old new : List Bool)
    → ((g i : ℕ) → g < n → i < GROUP_PAGES → has_page old (page_in_group g i) ≡ false → IsStill moment (page_at pages (page_in_group g i))) → AreWithin old new
    → ((i : ℕ) → i < GROUP_PAGES → has_page new (page_in_group n i) ≡ false → IsStill moment (page_at pages (page_in_group n i)))
    → (g i : ℕ) → g < n + 1 → i < GROUP_PAGES → has_page new (page_in_group g i) ≡ false → IsStill moment (page_at pages (page_in_group g i))
groups-added-next pages moment n old new so_far more here g i l m out = ⊎_elim
    (λ e. subst (λ (j : ℕ). IsStill moment (page_at pages (page_in_group j i))) (sym e) (here i m (ap (λ (j : ℕ). has_page new (page_in_group j i)) (sym e) ∙ out)))
    (λ other. so_far g i (omega (arith, l, other)) m (not-before old new (page_in_group g i) more out))
    (same_or_other g n)

-- ---- counts

count-both : (xs ys : List PageState) → item_count (items_of (xs ++ ys)) ≡ item_count (items_of xs) + item_count (items_of ys)
count-both [] ys = omega arith
count-both (x ∷ xs) ys = omega (arith, count-more x.items (items_of (xs ++ ys)), count-both xs ys, count-more x.items (items_of xs))

-- the items of one group more
pub count-in-next : (gs : List (List PageState)) (n : ℕ) → n < length gs
    → item_count (items_of (pages_in (take (n + 1) gs))) ≡ item_count (items_of (pages_in (take n gs))) + item_count (items_of (get_or gs n []))
count-in-next gs n l =
    ap (λ (x : List (List PageState)). item_count (items_of (pages_in x))) (take_more gs n [] l)
    ∙ ap (λ (x : List PageState). item_count (items_of x)) (sym (flat_map_more (λ (g : List PageState). g) [] (take n gs) (get_or gs n [])))
    ∙ count-both (pages_in (take n gs)) (get_or gs n [])
