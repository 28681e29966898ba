-- Texts of the pages of a map, one after the other.
use Rattle.std.proofs.Common.{◌≡◌, ℕ, zero, suc, ◌+◌, ◌<◌, ◌≤◌, Bool, true, false, List, [], ◌∷◌, ◌++◌, length, get_or, refl, sym, ap, ◌∙◌, arith, subst, append_assoc}
use Rattle.std.specs.Prelude.{flat_map}
use Rattle.std.specs.List.{range_with_len}
use Rattle.std.proofs.lemmas.List.{append-nil, length-append}
use Rattle.std.proofs.lemmas.List.FromFn.{length-map-range_with_len, get_or-map-range_with_len, fill_by_all}
use Rattle.base.specs.declared.fault.Fault.{Fault}
use Rattle.items.specs.Map.{Items}
use Rattle.wire.specs.Record.{Always, IsPrefixFree, NoPrefix, Puts, Refused}
use Rattle.wire.proofs.Values.{Refused-weaker}
use Rattle.pages.specs.Page.{PageState, page_count, page_items}
use Rattle.pages.specs.declared.layout.Layout.TheVariants.{Sorted}
use Rattle.pages.specs.Joined.{IsOwn, AreOwn, ArePages, joined_pages, parts, items_of}
use Rattle.pages.proofs.JoinedLemmas.{no_items, own-page}
use Rattle.pages.proofs.StateLemmas.{items-at, length-states}
use Rattle.pages.proofs.PartLemmas.{page-items, parts-are, joined-parts}
use Rattle.pages.specs.Others.{has_page, AreChanged, IsChangedAt}
use Rattle.pages.specs.declared.layout.Layout.{Layout}
use Rattle.states.specs.StateRecord.{each_page, change_text, changes_text, flagged_page, flagged_text}
use Rattle.states.proofs.EntryLemmas.{same_text, other_text}

-- the last of so many texts
pub last_text : (g : ℕ → List ℕ) (p n : ℕ) → flat_map g (range_with_len p (suc n)) ≡ flat_map g (range_with_len p n) ++ g (p + n)
last_text g p zero =
    let here : p ≡ p + 0 = omega arith in
    append-nil (g p) ∙ ap g here
last_text g p (suc n) =
    let here : p + 1 + n ≡ p + suc n = omega arith in
    ap (λ (t : List ℕ). g p ++ t) (last_text g (p + 1) n) ∙ (sym (append_assoc (g p) (flat_map g (range_with_len (p + 1) n)) (g (p + 1 + n)))
    ∙ ap (λ k. (g p ++ flat_map g (range_with_len (p + 1) n)) ++ g k) here)

-- one text more was written
pub put_next : {S : Type 0} (holds : S → List ℕ → Type 0) (g : ℕ → List ℕ) (n : ℕ) (old sink new : S) (text : List ℕ) → Puts holds (flat_map g (range_with_len 0 n)) old sink → text ≡ g n → Puts holds text sink new
    → Puts holds (flat_map g (range_with_len 0 (n + 1))) old new
put_next holds g n old sink new text so_far e more m h =
    let here : 0 + n ≡ n = omega arith in
    let one : suc n ≡ n + 1 = omega arith in
    let all : flat_map g (range_with_len 0 n) ++ text ≡ flat_map g (range_with_len 0 (n + 1)) =
    ap (λ (t : List ℕ). flat_map g (range_with_len 0 n) ++ t) (e ∙ ap g (sym here)) ∙ (sym (last_text g 0 n) ∙ ap (λ k. flat_map g (range_with_len 0 k)) one) in
    subst (λ (t : List ℕ). holds new t) (append_assoc m (flat_map g (range_with_len 0 n)) text ∙ ap (λ (t : List ℕ). m ++ t) all) (more (m ++ flat_map g (range_with_len 0 n)) (so_far m h))

-- all were written
pub put_all : {S : Type 0} (holds : S → List ℕ → Type 0) (g : ℕ → List ℕ) (n : ℕ) (old new : S) → Puts holds (flat_map g (range_with_len 0 n)) old new → n ≡ page_count → Puts holds (each_page g) old new
put_all holds g n old new so_far e = subst (λ (k : ℕ). Puts holds (flat_map g (range_with_len 0 k)) old new) e so_far

-- page p of a map has its own keys alone
pub own_page_items : (m : Items) (p : ℕ) → IsOwn p (page_items m p)
own_page_items m p =
    subst (λ (n : Items). IsOwn p n) (page-items (parts m) p (parts-are m) ∙ ap (λ (n : Items). page_items n p) (joined-parts m)) (own-page (parts m) p (parts-are m))

-- maps with the same pages are one
pub same_pages : (v w : Items) → ((i : ℕ) → i < page_count → page_items v i ≡ page_items w i) → v ≡ w
same_pages v w is =
    let same : parts v ≡ parts w = fill_by_all (page_items w) (parts v) page_count no_items (length-map-range_with_len (page_items v) 0 page_count)
    (λ k l. get_or-map-range_with_len (page_items v) 0 page_count k k no_items l (omega arith) ∙ is k l) in
    sym (joined-parts v) ∙ (ap joined_pages same ∙ joined-parts w)

pub own_snoc : (p : ℕ) (pages : List Items) (m : Items) → AreOwn p pages → IsOwn (p + length pages) m → AreOwn p (pages ++ m ∷ [])
own_snoc p [] m own mine =
    let here : p + 0 ≡ p = omega arith in
    (subst (λ k. IsOwn k m) here mine, tt)
own_snoc p (n ∷ pages) m own mine =
    let here : p + length (n ∷ pages) ≡ p + 1 + length pages = omega arith in
    (own.0, own_snoc (p + 1) pages m own.1 (subst (λ k. IsOwn k m) here mine))

module _ (text : ℕ → Items → List ℕ) where
  -- the texts of these pages, from page p on
  abbrev pub texts : ℕ → List Items → List ℕ
  texts p [] = []
  texts p (m ∷ pages) = text p m ++ texts (p + 1) pages

  -- the texts of so many pages of a map, from page p on
  abbrev pub texts_from : Items → ℕ → ℕ → List ℕ
  texts_from m p n = flat_map (λ q. text q (page_items m q)) (range_with_len p n)

  texts_snoc : (p : ℕ) (pages : List Items) (m : Items) → texts p (pages ++ m ∷ []) ≡ texts p pages ++ text (p + length pages) m
  texts_snoc p [] m =
      let here : p ≡ p + 0 = omega arith in
      append-nil (text p m) ∙ ap (λ k. text k m) here
  texts_snoc p (n ∷ pages) m =
      let here : p + 1 + length pages ≡ p + length (n ∷ pages) = omega arith in
      ap (λ (t : List ℕ). text p n ++ t) (texts_snoc (p + 1) pages m)
      ∙ (sym (append_assoc (text p n) (texts (p + 1) pages) (text (p + 1 + length pages) m))
      ∙ ap (λ k. (text p n ++ texts (p + 1) pages) ++ text k m) here)

  texts_are : (p : ℕ) (pages : List Items) (whole : Items) → ((i : ℕ) → i < length pages → get_or pages i no_items ≡ page_items whole (p + i)) → texts p pages ≡ texts_from whole p (length pages)
  texts_are p [] whole is = refl
  texts_are p (m ∷ pages) whole is =
      let here : p + 0 ≡ p = omega arith in
      let first : m ≡ page_items whole p = is 0 (omega arith) ∙ ap (page_items whole) here in
      let next : (i : ℕ) → p + suc i ≡ p + 1 + i = λ i. omega arith in
      let later = texts_are (p + 1) pages whole (λ i l. is (suc i) (omega (arith, l)) ∙ ap (page_items whole) (next i)) in
      (λ i. text p (first i) ++ later i)

  -- what was read of the pages so far, and the rest
  pub record HasPages (pages : List Items) (count : ℕ) (bytes rest : List ℕ) : Type 0 where
    pub counted : length pages ≡ count
    pub own : AreOwn 0 pages
    pub parts_are : bytes ≡ texts 0 pages ++ rest

  pub begins : (bytes : List ℕ) → HasPages [] 0 bytes bytes
  begins bytes = record { counted = refl; own = tt; parts_are = refl }

  pub goes_on : (pages : List Items) (count : ℕ) (bytes rest : List ℕ) (m : Items) (after : List ℕ) → HasPages pages count bytes rest → IsOwn count m → rest ≡ text count m ++ after
      → HasPages (pages ++ m ∷ []) (count + 1) bytes after
  goes_on pages count bytes rest m after so_far own e =
      let here : count ≡ 0 + length pages = omega (arith, so_far.counted) in
      record {
        counted = length-append pages (m ∷ []) ∙ ap (λ (n : ℕ). n + 1) so_far.counted;
        own = own_snoc 0 pages m so_far.own (subst (λ k. IsOwn k m) here own);
        parts_are = so_far.parts_are ∙ (ap (λ (t : List ℕ). texts 0 pages ++ t) (e ∙ ap (λ k. text k m ++ after) here)
            ∙ (sym (append_assoc (texts 0 pages) (text (0 + length pages) m) after) ∙ ap (λ (t : List ℕ). t ++ after) (sym (texts_snoc 0 pages m))));
      }

  -- all pages were read
  pub all_read : (pages : List Items) (count : ℕ) (bytes rest : List ℕ) → HasPages pages count bytes rest → count ≡ page_count
      → ArePages pages × (bytes ≡ each_page (λ p. text p (page_items (joined_pages pages) p)) ++ rest)
  all_read pages count bytes rest so_far all =
      let are : ArePages pages = (so_far.counted ∙ all, so_far.own) in
      let here : (i : ℕ) → i ≡ 0 + i = λ i. omega arith in
      let same = texts_are 0 pages (joined_pages pages) (λ i l. page-items pages i are ∙ ap (page_items (joined_pages pages)) (here i)) in
      (are, so_far.parts_are ∙ ap (λ (t : List ℕ). t ++ rest) (same ∙ ap (texts_from (joined_pages pages) 0) are.0))

  module _ (free : (p : ℕ) → IsPrefixFree (text p)) where
    -- the page that comes next in such texts
    next_page : (p n : ℕ) (pages : List Items) (v : Items) (rest after : List ℕ) → length pages < n → texts p pages ++ rest ≡ texts_from v p n ++ after
        → (later : List ℕ) × (rest ≡ text (p + length pages) (page_items v (p + length pages)) ++ later)
    next_page p zero pages v rest after l e = absurd (omega (arith, l))
    next_page p (suc n) [] v rest after l e =
        let here : p ≡ p + 0 = omega arith in
        (texts_from v (p + 1) n ++ after, e ∙ (append_assoc (text p (page_items v p)) (texts_from v (p + 1) n) after ∙ ap (λ k. text k (page_items v k) ++ (texts_from v (p + 1) n ++ after)) here))
    next_page p (suc n) (m ∷ pages) v rest after l e =
        let both = (free p).apart m (page_items v p) (texts (p + 1) pages ++ rest) (texts_from v (p + 1) n ++ after)
        (sym (append_assoc (text p m) (texts (p + 1) pages) rest) ∙ (e ∙ append_assoc (text p (page_items v p)) (texts_from v (p + 1) n) after)) in
        let more = next_page (p + 1) n pages v rest after (omega (arith, l)) both.1 in
        let here : p + 1 + length pages ≡ p + length (m ∷ pages) = omega arith in
        (more.0, more.1 ∙ ap (λ k. text k (page_items v k) ++ more.0) here)

    -- if no page comes next, the texts are those of no map
    pub no_pages : (pages : List Items) (count : ℕ) (bytes rest : List ℕ) → HasPages pages count bytes rest → count < page_count → (e : Fault)
        → Refused e (NoPrefix {X = PageState} (λ page. IsOwn count page.items) (λ page. text count page.items) rest)
        → Refused e (NoPrefix {X = Items} Always (λ m. each_page (λ p. text p (page_items m p))) bytes)
    no_pages pages count bytes rest so_far below e = Refused-weaker e (λ none. record {
      none = λ v after f same.
          let next = next_page 0 page_count pages v rest after (omega (arith, below, so_far.counted)) (sym so_far.parts_are ∙ same) in
          let here : 0 + length pages ≡ count = omega (arith, so_far.counted) in
          let again : rest ≡ text count (page_items v count) ++ next.0 = next.1 ∙ ap (λ k. text k (page_items v k) ++ next.0) here in
          none.none (record { items = page_items v count; layout = Sorted; sealed = false }) next.0 (own_page_items v count) again;
    })

    each_alike : (p n : ℕ) (v w : Items) (r s : List ℕ) → texts_from v p n ++ r ≡ texts_from w p n ++ s → ((i : ℕ) → i < n → page_items v (p + i) ≡ page_items w (p + i)) × (r ≡ s)
    each_alike p zero v w r s e = (λ i l. absurd (omega (arith, l)), e)
    each_alike p (suc n) v w r s e =
        let both = (free p).apart (page_items v p) (page_items w p) (texts_from v (p + 1) n ++ r) (texts_from w (p + 1) n ++ s)
        (sym (append_assoc (text p (page_items v p)) (texts_from v (p + 1) n) r) ∙ (e ∙ append_assoc (text p (page_items w p)) (texts_from w (p + 1) n) s)) in
        let more = each_alike (p + 1) n v w r s both.1 in
        (at both.0 more.0, more.1)
      where
        at : page_items v p ≡ page_items w p → ((i : ℕ) → i < n → page_items v (p + 1 + i) ≡ page_items w (p + 1 + i)) → (i : ℕ) → i < suc n → page_items v (p + i) ≡ page_items w (p + i)
        at first later zero l =
            let here : p ≡ p + 0 = omega arith in
            subst (λ k. page_items v k ≡ page_items w k) here first
        at first later (suc i) l =
            let here : p + 1 + i ≡ p + suc i = omega arith in
            subst (λ k. page_items v k ≡ page_items w k) here (later i (omega (arith, l)))

    pub texts_free : IsPrefixFree {X = Items} (λ m. each_page (λ p. text p (page_items m p)))
    texts_free = record {
      apart = λ v w r s e.
          let both = each_alike 0 page_count v w r s e in
          let here : (i : ℕ) → 0 + i ≡ i = λ i. omega arith in
          (same_pages v w (λ i l. subst (λ k. page_items v k ≡ page_items w k) (here i) (both.0 i l)), both.1);
    }

-- a page that was parted off
pub shared_page : (shared : List PageState) (before : Items) (n : ℕ) (page : PageState) → items_of shared ≡ parts before → n < page_count → page ≡ get_or shared n page → page.items ≡ page_items before n
shared_page shared before n page parted l read =
    let many : length shared ≡ page_count = length-states shared (subst ArePages (sym parted) (parts-are before)) in
    items-at shared n page (omega (arith, l, many)) read
    ∙ (ap (λ (ms : List Items). get_or ms n no_items) parted ∙ get_or-map-range_with_len (page_items before) 0 page_count n n no_items l (omega arith))

-- what is written of each page is what is written over the pages before
pub flagged_is : (layout : Layout) (changed : List Bool) (before after : Items) → AreChanged changed before after → flagged_text layout changed after ≡ changes_text layout before after
unfolding flagged_text changes_text
flagged_is layout changed before after is = same_each (λ p. flagged_page layout (has_page changed p) (page_items after p)) (λ p. change_text layout (page_items before p) (page_items after p)) (λ p l. one (has_page changed p) p (is p l))
  where
    one : (b : Bool) (p : ℕ) → IsChangedAt before after p b → flagged_page layout b (page_items after p) ≡ change_text layout (page_items before p) (page_items after p)
    one true p at = sym (other_text layout (page_items before p) (page_items after p) (at.0 refl))
    one false p at = sym (same_text layout (page_items before p) (page_items after p) (at.1 refl))

    same_from : (f g : ℕ → List ℕ) (p n : ℕ) → ((q : ℕ) → p ≤ q → q < p + n → f q ≡ g q) → flat_map f (range_with_len p n) ≡ flat_map g (range_with_len p n)
    same_from f g p zero is = refl
    same_from f g p (suc n) is = λ i. is p (omega arith) (omega arith) i ++ same_from f g (p + 1) n (λ q low high. is q (omega (arith, low)) (omega (arith, high))) i

    same_each : (f g : ℕ → List ℕ) → ((p : ℕ) → p < page_count → f p ≡ g p) → each_page f ≡ each_page g
    same_each f g is = same_from f g 0 page_count (λ q low high. is q (omega (arith, high)))
