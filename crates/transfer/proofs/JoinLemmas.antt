-- Pages that came, in the places of the own ones.
use Rattle.std.proofs.Common.{◌≡◌, ◌≢◌, ℕ, ◌<◌, Bool, true, false, cond, List, [], ◌∷◌, ◌++◌, length, get_or, set, Some, refl, sym, ap, ◌∙◌, arith, subst, append_assoc}
use Rattle.std.specs.Prelude.{◌==◌}
use Rattle.std.specs.Map.{lookup}
use Rattle.std.specs.Option.{option_map_or}
use Rattle.std.proofs.lemmas.Bool.Decides.{nat_tests}
use Rattle.std.proofs.lemmas.List.{append-nil, get_or-set_same, get_or-set_other, length-set}
use Rattle.std.proofs.lemmas.List.FromFn.{length-map-range_with_len, get_or-map-range_with_len, fill_by_all}
use Rattle.items.specs.Map.{Items}
use Rattle.pages.specs.Page.{PageState, Laid, page_count, page_items, of_each}
use Rattle.pages.specs.Joined.{ArePages, IsOwn, joined_pages, items_of}
use Rattle.pages.proofs.JoinedLemmas.{no_items, pages-set}
use Rattle.pages.proofs.PartLemmas.{parts-joined}
use Rattle.pages.proofs.StateLemmas.{items-set}
use Rattle.transfer.specs.Parcel.{page_from}

-- if none came, they are the own ones
none_came : (pages : List Items) → ArePages pages → pages ≡ of_each (page_from (joined_pages pages) [])
none_came pages are = sym (parts-joined pages are)

module _ (own : Items) (pages : List Items) (came : List (ℕ × Laid)) (is : pages ≡ of_each (page_from own came)) where
  -- there are as many as before
  still_all : length pages ≡ page_count
  still_all = ap length is ∙ length-map-range_with_len (page_from own came) 0 page_count

  module _ (n : ℕ) (m : Laid) (within : n < page_count) where
    put_at : (k : ℕ) → k < page_count → get_or (set pages n m.items) k no_items ≡ page_from own ((n, m) ∷ came) k
    put_at k below = by (k == n) refl
      where
        by : (b : Bool) → (k == n) ≡ b → get_or (set pages n m.items) k no_items ≡ option_map_or (λ (a : Laid). a.items) (cond b (Some m) (lookup (λ q. k == q) came)) (page_items own k)
        by true e =
            let here : k ≡ n = grind (arith, nat_tests) in
            ap (λ j. get_or (set pages n m.items) j no_items) here ∙ get_or-set_same pages n m.items no_items (omega (arith, within, still_all))
        by false e =
            let other : k ≢ n = grind (arith, nat_tests) in
            get_or-set_other pages n k m.items no_items other
            ∙ (ap (λ (ms : List Items). get_or ms k no_items) is ∙ get_or-map-range_with_len (page_from own came) 0 page_count k k no_items below (omega arith))

    -- one page more came
    one_more : set pages n m.items ≡ of_each (page_from own ((n, m) ∷ came))
    one_more = fill_by_all (page_from own ((n, m) ∷ came)) (set pages n m.items) page_count no_items (length-set pages n m.items ∙ still_all) put_at

-- of the pages that came, those that are not left are in the places of the own ones
abbrev pub ArePut : List Items → List (ℕ × Laid) → List (ℕ × Laid) → List Items → Type 0
ArePut own came left pages = (done : List (ℕ × Laid)) × (came ≡ left ++ done) × ArePages pages × (pages ≡ of_each (page_from (joined_pages own) done))

pub none_put : (own : List Items) (came : List (ℕ × Laid)) → ArePages own → ArePut own came came own
none_put own came are = ([], sym (append-nil came), are, none_came own are)

-- the last one that is left is put in its place
pub one_put : (own : List Items) (came left rest : List (ℕ × Laid)) (pages : List PageState) (at : ℕ) (put : PageState) (page : ℕ × Laid) → ArePut own came left (items_of pages)
    → left ≡ rest ++ page ∷ [] → at ≡ page.0 → at < page_count → put.items ≡ page.1.items → IsOwn page.0 page.1.items → ArePut own came rest (items_of (set pages at put))
one_put own came left rest pages at put page so_far last here within is mine =
    let now : items_of (set pages at put) ≡ set (items_of pages) page.0 page.1.items = items-set pages at put ∙ (λ i. set (items_of pages) (here i) (is i)) in (
      page ∷ so_far.0,
      so_far.1 ∙ (ap (λ (ps : List (ℕ × Laid)). ps ++ so_far.0) last ∙ append_assoc rest (page ∷ []) so_far.0),
      subst ArePages (sym now) (pages-set (items_of pages) page.0 page.1.items so_far.2 mine),
      now ∙ one_more (joined_pages own) (items_of pages) so_far.0 so_far.3 page.0 page.1 (omega (arith, within, here)),
    )

-- once none is left all that came are in their places
pub all_put : (own : List Items) (came left : List (ℕ × Laid)) (pages : List Items) → ArePut own came left pages → left ≡ [] → pages ≡ of_each (page_from (joined_pages own) came)
all_put own came left pages put none =
    let all : came ≡ put.0 = put.1 ∙ ap (λ (ps : List (ℕ × Laid)). ps ++ put.0) none in
    put.3 ∙ ap (λ (ps : List (ℕ × Laid)). of_each (page_from (joined_pages own) ps)) (sym all)
