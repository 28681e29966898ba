-- How many items there are in pages.
use Rattle.std.proofs.Common.{◌≡◌, ℕ, zero, suc, ◌+◌, ◌<◌, ◌≤◌, Bool, true, false, cond, List, [], ◌∷◌, ◌++◌, map, length, take, get_or, refl, sym, ap, ◌∙◌, arith}
use Rattle.std.specs.Prelude.{◌==◌, filter}
use Rattle.std.specs.List.{range_with_len, flat_map}
use Rattle.std.specs.FinMap.{entries}
use Rattle.std.proofs.lemmas.Bool.Decides.{nat_tests}
use Rattle.std.proofs.lemmas.List.{length-append, take_more, append-nil}
use Rattle.std.proofs.lemmas.Grind.{flat_map-append}
use Rattle.items.specs.declared.item.Item.{Item}
use Rattle.items.specs.Map.{Items}
use Rattle.pages.specs.Page.{page_number, page_count, page_items, item_count}
use Rattle.pages.specs.Joined.{ArePages, joined_pages}
use Rattle.pages.proofs.JoinedLemmas.{page_number-lt, no_items}
use Rattle.pages.proofs.PartLemmas.{entries-page_items, parts-joined}

pub count-more : (m : Items) (pages : List Items) → item_count (m ∷ pages) ≡ length (entries m) + item_count pages
count-more m pages = length-append (entries m) (flat_map entries pages)

-- the entries of one page
abbrev of_page : List (List ℕ × Item) → ℕ → List (List ℕ × Item)
of_page es p = filter (λ e. page_number e.0 == p) es

-- how often a number is among those from a on
abbrev hits : ℕ → ℕ → ℕ → ℕ
hits x a zero = 0
hits x a (suc n) = cond (x == a) 1 0 + hits x (a + 1) n

hits_below : (x a n : ℕ) → x < a → hits x a n ≡ 0
hits_below x a zero l = refl
hits_below x a (suc n) l =
    let apart : (x == a) ≡ false = grind (arith, nat_tests) in
    let none : cond (x == a) 1 0 ≡ 0 = ap {B = ℕ} (λ b. cond b 1 0) apart in
    omega (arith, none, hits_below x (a + 1) n (omega arith))

hits_once : (x a n : ℕ) → a ≤ x → x < a + n → hits x a n ≡ 1
hits_once x a zero l h = absurd (omega arith)
hits_once x a (suc n) l h = by (x == a) refl (λ above. hits_once x (a + 1) n above (omega arith))
  where
    by : (b : Bool) → (x == a) ≡ b → (a + 1 ≤ x → hits x (a + 1) n ≡ 1) → cond (x == a) 1 0 + hits x (a + 1) n ≡ 1
    by true e rest =
        let below : x < a + 1 = grind (arith, nat_tests) in
        let one : cond (x == a) 1 0 ≡ 1 = ap {B = ℕ} (λ b. cond b 1 0) e in
        omega (arith, one, hits_below x (a + 1) n below)
    by false e rest =
        let above : a + 1 ≤ x = grind (arith, nat_tests) in
        let none : cond (x == a) 1 0 ≡ 0 = ap {B = ℕ} (λ b. cond b 1 0) e in
        omega (arith, none, rest above)

one_more : (e : List ℕ × Item) (es : List (List ℕ × Item)) (a n : ℕ) → length (flat_map (of_page (e ∷ es)) (range_with_len a n)) ≡ hits (page_number e.0) a n + length (flat_map (of_page es) (range_with_len a n))
one_more e es a zero = omega arith
one_more e es a (suc n) =
    let rest = one_more e es (a + 1) n in
    let whole = length-append (of_page (e ∷ es) a) (flat_map (of_page (e ∷ es)) (range_with_len (a + 1) n)) in
    let before = length-append (of_page es a) (flat_map (of_page es) (range_with_len (a + 1) n)) in
    let here : length (of_page (e ∷ es) a) ≡ cond (page_number e.0 == a) 1 0 + length (of_page es a) =
    elim (page_number e.0 == a) as (λ b. length (cond b (e ∷ of_page es a) (of_page es a)) ≡ cond b 1 0 + length (of_page es a)) [ true ↦ omega arith | false ↦ omega arith ] in
    omega (arith, rest, whole, before, here)

none_of : (a n : ℕ) → length (flat_map (of_page []) (range_with_len a n)) ≡ 0
none_of a zero = refl
none_of a (suc n) = none_of (a + 1) n

-- each entry is on one page
all_of : (es : List (List ℕ × Item)) → length (flat_map (of_page es) (range_with_len 0 page_count)) ≡ length es
all_of [] = none_of 0 page_count
all_of (e ∷ es) =
    let once = hits_once (page_number e.0) 0 page_count (omega arith) (page_number-lt e.0) in
    omega (arith, one_more e es 0 page_count, once, all_of es)

part_entries : (m : Items) (a n : ℕ) → flat_map entries (map (page_items m) (range_with_len a n)) ≡ flat_map (of_page (entries m)) (range_with_len a n)
part_entries m a zero = refl
part_entries m a (suc n) = λ i. entries-page_items m a i ++ part_entries m (a + 1) n i

-- pages have as many items as the map that they are together
pub count-joined : (pages : List Items) → ArePages pages → item_count pages ≡ length (entries (joined_pages pages))
count-joined pages a =
    ap item_count (sym (parts-joined pages a)) ∙ ap length (part_entries (joined_pages pages) 0 page_count) ∙ all_of (entries (joined_pages pages))

-- the items of one page more
pub count-next : (pages : List Items) (n : ℕ) → n < length pages → item_count (take (n + 1) pages) ≡ item_count (take n pages) + length (entries (get_or pages n no_items))
count-next pages n l =
    let more = take_more pages n no_items l in
    let one = get_or pages n no_items in
    let both = flat_map-append entries (take n pages) (one ∷ []) in
    ap item_count more ∙ ap length both ∙ length-append (flat_map entries (take n pages)) (entries one ++ []) ∙ ap (λ es. length (flat_map entries (take n pages)) + length es) (append-nil (entries one))
