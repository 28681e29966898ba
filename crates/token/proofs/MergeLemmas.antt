-- A page in parts: what comes next in them, and what is left then.
use Rattle.std.proofs.Common.{◌≡◌, ◌≢◌, ℕ, ◌+◌, ◌<◌, Bool, true, false, cond, List, [], ◌∷◌, ◌++◌, length, map, take, drop, replicate, get_or, set, true≢false, refl, sym, ap, ◌∙◌, arith, subst, append_assoc, Result, Ok, Err, OnOk}
use Rattle.std.specs.Prelude.{◌==◌, sum}
use Rattle.std.specs.List.{flat_map, IsFirstAndRest}
use Rattle.std.specs.Borrow.{Bor}
use Rattle.std.specs.Ordering.{is_lt, ordering_reverse}
use Rattle.std.specs.Cmp.Lexicographic.{nat_list_cmp_total}
use Rattle.std.specs.FinMap.Entries.{below_all}
use Rattle.std.proofs.lemmas.Bool.{and_parts}
use Rattle.std.proofs.lemmas.Bool.Decides.{nat_tests}
use Rattle.std.proofs.lemmas.List.{same_lists, get_or_default, get_or-replicate, get_or-set_same, get_or-set_other, get_or-map, length-set, length-replicate, length-map, map-set, drop_more, take_more, flat_map_more}
use Rattle.std.proofs.lemmas.List.Sums.{sum_by-set, sum-map}
use Rattle.base.proofs.Sorted.{lt_is}
use Rattle.items.specs.declared.item.Item.{Item}
use Rattle.items.specs.Map.{by_bytes}
use Rattle.std.specs.Int.{w32}
use Rattle.wire.specs.Number.{num}
use Rattle.wire.specs.Item.{entry_text, page_text}
use Rattle.wire.specs.Record.{Puts}
use Rattle.token.specs.Merged.{AreParts, IsNext, of_class, part_at, lent, count_of, is_earlier}

not_lower : (q k : List ℕ) → is_lt (by_bytes q k) ≡ true → is_lt (by_bytes k q) ≡ false
not_lower q k h = ap is_lt (nat_list_cmp_total.antisymm k q ∙ ap ordering_reverse (lt_is _ h))

same_class : (n : ℕ) → (n == n) ≡ true
same_class n = grind (arith, nat_tests)

other_class : (n i : ℕ) → i ≢ n → (n == i) ≡ false
other_class n i other = grind (arith, nat_tests)

abbrev no_entries : List (List ℕ × Item)
no_entries = []

module _ (class : List ℕ → ℕ) where
  -- an entry below all others comes before those of any class
  before_class : (i : ℕ) (e : List ℕ × Item) (es later : List (List ℕ × Item)) → below_all by_bytes e.0 es ≡ true → is_earlier (e ∷ later) (of_class class i es) ≡ true
  before_class i e [] later h = refl
  before_class i e (x ∷ es) later h = elim (class x.0 == i) as (λ b. is_earlier (e ∷ later) (cond b (x ∷ of_class class i es) (of_class class i es)) ≡ true) [
    | true ↦ (and_parts _ _ h).0
    | false ↦ before_class i e es later (and_parts _ _ h).1
  ]

  none_before : (i : ℕ) (e : List ℕ × Item) (es later : List (List ℕ × Item)) → below_all by_bytes e.0 es ≡ true → is_earlier (of_class class i es) (e ∷ later) ≡ false
  none_before i e [] later h = refl
  none_before i e (x ∷ es) later h = elim (class x.0 == i) as (λ b. is_earlier (cond b (x ∷ of_class class i es) (of_class class i es)) (e ∷ later) ≡ false) [
    | true ↦ not_lower e.0 x.0 (and_parts _ _ h).0
    | false ↦ none_before i e es later (and_parts _ _ h).1
  ]

  module _ (e : List ℕ × Item) (es : List (List ℕ × Item)) (parts : List (List (List ℕ × Item))) (are : AreParts class (e ∷ es) parts) where
    -- the part of the first entry begins with it
    pub first_is : part_at parts (class e.0) ≡ e ∷ of_class class (class e.0) es
    first_is =
        are.parted (class e.0) (are.classes e.0) ∙ ap (λ b. cond b (e ∷ of_class class (class e.0) es) (of_class class (class e.0) es)) (same_class (class e.0))

    others_are : (i : ℕ) → i < 4 → i ≢ class e.0 → part_at parts i ≡ of_class class i es
    others_are i l other = are.parted i l ∙ ap (λ b. cond b (e ∷ of_class class i es) (of_class class i es)) (other_class (class e.0) i other)

    -- it comes before all others
    pub is_next : IsNext parts (class e.0)
    is_next i l other = (
      (λ k. is_earlier (first_is k) (others_are i l other k)) ∙ before_class i e es (of_class class (class e.0) es) (and_parts _ _ are.rising).0,
      (λ k. is_earlier (others_are i l other k) (first_is k)) ∙ none_before i e es (of_class class (class e.0) es) (and_parts _ _ are.rising).0,
    )

    pub within : class e.0 < length parts
    within = omega (arith, are.four, are.classes e.0)

    -- without it they are the parts of the others
    pub left_are : AreParts class es (set parts (class e.0) (of_class class (class e.0) es))
    left_are = record {
      rising = (and_parts _ _ are.rising).1;
      four = length-set parts (class e.0) (of_class class (class e.0) es) ∙ are.four;
      classes = are.classes;
      parted = λ i l. by i l (i == class e.0) refl;
    }
      where
        by : (i : ℕ) → i < 4 → (b : Bool) → (i == class e.0) ≡ b → part_at (set parts (class e.0) (of_class class (class e.0) es)) i ≡ of_class class i es
        by i l true same =
            let here : i ≡ class e.0 = grind (arith, nat_tests) in
            ap (part_at (set parts (class e.0) (of_class class (class e.0) es))) here
            ∙ get_or-set_same parts (class e.0) (of_class class (class e.0) es) [] within
            ∙ ap (λ k. of_class class k es) (sym here)
        by i l false same =
            let other : i ≢ class e.0 = grind (arith, nat_tests) in
            get_or-set_other parts (class e.0) i (of_class class (class e.0) es) [] other ∙ others_are i l other

  -- the parts have as many entries as the whole
  pub count-parts : (whole : List (List ℕ × Item)) (parts : List (List (List ℕ × Item))) → AreParts class whole parts → count_of parts ≡ length whole
  count-parts [] parts are =
      ap count_of (same_lists parts (replicate 4 no_entries) (are.four ∙ sym (length-replicate 4 no_entries))
      (λ k d l. let within : k < 4 = omega (arith, l, are.four) in get_or_default parts k d [] l ∙ are.parted k within ∙ sym (get_or-replicate 4 k no_entries d within)))
  count-parts (e ∷ es) parts are =
      let rest = of_class class (class e.0) es in
      let left = set parts (class e.0) (of_class class (class e.0) es) in
      let all : sum (map length parts) ≡ _ = sum-map length parts in
      let less : sum (map length (set parts (class e.0) (of_class class (class e.0) es))) ≡ _ = sum-map length left in
      omega (arith, count-parts es left (left_are e es parts are), all, less, sum_by-set length parts (class e.0) rest [] (within e es parts are), ap length (first_is e es parts are))

-- the part that comes next, of one part more
pub next-taken : (parts : List (List (List ℕ × Item))) (next part : ℕ) → part < 4 → is_earlier (part_at parts part) (part_at parts next) ≡ true
    → ((j : ℕ) → j < part → IsNext parts j → next ≡ j) → (j : ℕ) → j < part + 1 → IsNext parts j → part ≡ j
next-taken parts next part few first so_far j l is = by (part == j) refl
  where
    by : (b : Bool) → (part == j) ≡ b → part ≡ j
    by true e = grind (arith, nat_tests)
    by false e =
        let other : part ≢ j = grind (arith, nat_tests) in
        let here : next ≡ j = so_far j (omega (arith, l, other)) is in
        absurd (true≢false (sym first ∙ ap (λ k. is_earlier (part_at parts part) (part_at parts k)) here ∙ (is part few other).1))

pub next-kept : (parts : List (List (List ℕ × Item))) (next part : ℕ) → next < part → part < 4 → is_earlier (part_at parts part) (part_at parts next) ≡ false
    → ((j : ℕ) → j < part → IsNext parts j → next ≡ j) → (j : ℕ) → j < part + 1 → IsNext parts j → next ≡ j
next-kept parts next part less few first so_far j l is = by (part == j) refl
  where
    by : (b : Bool) → (part == j) ≡ b → next ≡ j
    by true e =
        let here : part ≡ j = grind (arith, nat_tests) in
        let other : next ≢ j = omega (arith, less, here) in
        absurd (true≢false (sym (is next (omega (arith, less, few)) other).0 ∙ ap (λ k. is_earlier (part_at parts k) (part_at parts next)) (sym here) ∙ first))
    by false e =
        let other : part ≢ j = grind (arith, nat_tests) in
        so_far j (omega (arith, l, other)) is

-- what was read of lent slices
pub lent-at : {X : Type 0} (slices : List (Bor (List X))) (i : ℕ) (slice : Bor (List X)) → i < length slices → slice ≡ get_or slices i slice → slice.now ≡ get_or (lent slices) i []
lent-at {X} slices i slice l e = ap (λ (s : Bor (List X)). s.now) e ∙ sym (get_or-map (λ (s : Bor (List X)). s.now) slices i slice [] l)

module _ (class : List ℕ → ℕ) (e : List ℕ × Item) (es : List (List ℕ × Item)) (slices : List (Bor (List (List ℕ × Item)))) (are : AreParts class (e ∷ es) (lent slices)) where
  -- the slice that comes next begins with the first entry
  pub next-begins : (next : ℕ) (slice : Bor (List (List ℕ × Item))) → ((j : ℕ) → j < 4 → IsNext (lent slices) j → next ≡ j) → slice ≡ get_or slices next slice
      → (next ≡ class e.0) × (slice.now ≡ e ∷ of_class class (class e.0) es)
  next-begins next slice is read =
      let here : next ≡ class e.0 = is (class e.0) (are.classes e.0) (is_next class e es (lent slices) are) in
      let within : next < length slices = omega (arith, here, are.four, are.classes e.0, length-map slices (λ (s : Bor (List (List ℕ × Item))). s.now)) in
      (here, lent-at slices next slice within read ∙ ap (part_at (lent slices)) here ∙ first_is class e es (lent slices) are)

  -- the slices without it
  pub left-lent : (next : ℕ) (others : Bor (List (List ℕ × Item))) → next ≡ class e.0 → others.now ≡ of_class class (class e.0) es → AreParts class es (lent (set slices next others))
  left-lent next others here rest =
      subst (AreParts class es) (sym (map-set (λ (s : Bor (List (List ℕ × Item))). s.now) slices next others ∙ (λ k. set (lent slices) (here k) (rest k)))) (left_are class e es (lent slices) are)

-- one entry more of a page
pub one-more : (whole : List (List ℕ × Item)) (i : ℕ) → i < length whole → (e : List ℕ × Item) × (drop i whole ≡ e ∷ drop (i + 1) whole) × (take (i + 1) whole ≡ take i whole ++ e ∷ [])
one-more [] i l = absurd (omega arith)
one-more (x ∷ whole) i l = (get_or (x ∷ whole) i x, drop_more (x ∷ whole) i x l, take_more (x ∷ whole) i x l)

-- and it was written
pub one-put : {S : Type 0} (holds : S → List ℕ → Type 0) (whole : List (List ℕ × Item)) (i : ℕ) (e : List ℕ × Item) (old sink new : S) → take (i + 1) whole ≡ take i whole ++ e ∷ []
    → Puts holds (flat_map entry_text (take i whole)) old sink → Puts holds (entry_text e) sink new → Puts holds (flat_map entry_text (take (i + 1) whole)) old new
one-put holds whole i e old sink new more so_far put m h =
    subst (holds new) (flat_map_more entry_text m (take i whole) e ∙ ap (λ (es : List (List ℕ × Item)). m ++ flat_map entry_text es) (sym more))
    (put (m ++ flat_map entry_text (take i whole)) (so_far m h))

-- what a list begins with, and the rest
pub first-of-rest : {X : Type 0} (xs : List X) (x : X) (rest : List X) (e : X) (es : List X) → IsFirstAndRest xs x rest → xs ≡ e ∷ es → (rest ≡ es) × (x ≡ e)
first-of-rest xs x rest e es is here =
    let both : x ∷ rest ≡ e ∷ es = sym is.0 ∙ here in
    (ap (drop 1) both, ap (λ ys. get_or ys 0 e) both)

-- the text of a page was written: its mark, its count and its entries
pub page-put : {S E : Type 0} (holds : S → List ℕ → Type 0) (r : Result (Unit {0}) E) (whole : List (List ℕ × Item)) (count : ℕ) (old marked counted new : S) → length whole ≡ count
    → Puts holds (0 ∷ []) old marked → Puts holds (num w32 count) marked counted → OnOk r (Puts holds (flat_map entry_text whole) counted new) → OnOk r (Puts holds (page_text whole) old new)
unfolding page_text
page-put holds (Ok x) whole count old marked counted new len mark counts put = λ m h.
    subst (holds new)
    (append_assoc (m ++ 0 ∷ []) (num w32 count) (flat_map entry_text whole) ∙ append_assoc m (0 ∷ []) (num w32 count ++ flat_map entry_text whole)
    ∙ ap (λ (k : ℕ). m ++ (0 ∷ (num w32 k ++ flat_map entry_text whole))) (sym len))
    (put ((m ++ 0 ∷ []) ++ num w32 count) (counts (m ++ 0 ∷ []) (mark m h)))
page-put holds (Err e) whole count old marked counted new len mark counts put = tt
