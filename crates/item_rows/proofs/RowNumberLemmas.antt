-- What differs between two pages is noted row by row.
use Rattle.std.proofs.Common.{◌≡◌, ◌≢◌, ◌⊎◌, inl, inr, ℕ, ◌+◌, ◌*◌, ◌/◌, ◌<◌, ◌≤◌, Bool, true, false, cond, not, List, [], ◌∷◌, None, refl, sym, ap, ◌∙◌, subst, arith}
use Rattle.std.specs.Prelude.{◌==◌, ◌^◌}
use Rattle.std.specs.List.{list_all}
use Rattle.std.specs.FinMap.{entries, get}
use Rattle.std.proofs.lemmas.Bool.{and_parts}
use Rattle.items.specs.Map.{Items}
use Rattle.merkle.specs.Shape.{AllOn}
use Rattle.merkle.specs.Digest.{on_side, map_tree}
use Rattle.merkle.specs.KeyPath.{path_bit, path_bits}
use Rattle.item_tree.specs.Text.{path_entries}
use Rattle.pages.specs.Page.{page_number, page_items}
use Rattle.pages.specs.Joined.{IsOwn}
use Rattle.pages.specs.declared.layout.Layout.TheVariants.{Tree}
use Rattle.pages.proofs.PartLemmas.{get-page_items}
use Rattle.pages.proofs.OwnLemmas.{is_of, all-in_layout}
use Rattle.item_rows.specs.Row.{first_bits, row_number_of}
use Rattle.item_rows.specs.RowItems.{RowItems}
use Rattle.item_rows.specs.Rising.{AllFrom, AreRising}
use Rattle.merkle.specs.Differing.{GoesByFront}
use Rattle.item_rows.specs.Changed.{in_row, row_told, IsNotedAt, AreNoted}
use Rattle.item_rows.proofs.OrderLemmas.{bits_behind, rises, same_bits, rising_filter}
use Rattle.item_rows.proofs.NumberLemmas.{first_number, first_small}
use Rattle.item_rows.proofs.NotedLemmas.{Entries, eq_true, unnoted}

-- the first bits of a path, as a number
path_number : List ℕ → ℕ
path_number key = bits_behind path_bit 55 0 0 key

path_number_is : (key : List ℕ) → path_number key ≡ first_bits key
unfolding path_number
path_number_is key = first_number key

same_path : (j k : List ℕ) → path_number j ≡ path_number k → (i : ℕ) → i < 55 → path_bit j i ≡ path_bit k i
unfolding path_number
same_path j k h i lt =
    let at : path_bit j (i + 0) ≡ path_bit k (i + 0) = (same_bits path_bit 55 0 0 0 j k h).1 i lt in
    let e : i + 0 ≡ i = omega arith in
    subst (λ m. path_bit j m ≡ path_bit k m) e at

path_rises : (m : Items) → AreRising path_number (path_entries m)
unfolding path_number map_tree
path_rises m = rises path_bit 55 path_bits 0 0 (entries m) (omega arith)

same_parts : (p q f g : ℕ) → f < 36028797018963968 → g < 36028797018963968 → p * 36028797018963968 + f ≡ q * 36028797018963968 + g → f ≡ g
same_parts p q f g h k e = omega arith

page_part : (p f : ℕ) → f < 36028797018963968 → (p * 36028797018963968 + f) / 36028797018963968 ≡ p
page_part p f h = omega arith

ordered : (n p q u v f g : ℕ) → p ≡ n → q ≡ n → u ≡ f → v ≡ g → u ≤ v → p * 36028797018963968 + f ≤ q * 36028797018963968 + g
ordered n p q u v f g a b c d h = omega arith

-- keys of one row begin alike
same_row_number : (j k : List ℕ) → row_number_of j ≡ row_number_of k → (i : ℕ) → i < 55 → path_bit j i ≡ path_bit k i
same_row_number j k h = same_path j k (path_number_is j ∙ same_parts (page_number j) (page_number k) (first_bits j) (first_bits k) (first_small j) (first_small k) h ∙ sym (path_number_is k))

page_of_row_number : (key : List ℕ) → row_number_of key / 2 ^ 55 ≡ page_number key
page_of_row_number key = page_part (page_number key) (first_bits key) (first_small key)

-- the keys of a page
abbrev pub OfPage : ℕ → Entries → Type 0
OfPage n es = AllOn (λ k. page_number k == n) true es

module _ (n : ℕ) where
  all_of : (es : Entries) → list_all (is_of n) es ≡ true → OfPage n es
  all_of [] h = tt
  all_of (e ∷ es) h = (let both = and_parts _ _ h in (both.0, all_of es both.1))

  row_number_from : (j : List ℕ) (es : Entries) → (page_number j == n) ≡ true → OfPage n es → AllFrom path_number (path_number j) es → AllFrom row_number_of (row_number_of j) es
  row_number_from j [] is all a = tt
  row_number_from j (e ∷ es) is all a =
      (ordered n (page_number j) (page_number e.0) (path_number j) (path_number e.0) (first_bits j) (first_bits e.0) (eq_true _ _ is) (eq_true _ _ all.0) (path_number_is j) (path_number_is e.0) a.0, row_number_from j es is all.1 a.1)

  row_number_rises : (es : Entries) → OfPage n es → AreRising path_number es → AreRising row_number_of es
  row_number_rises [] all r = tt
  row_number_rises (e ∷ es) all r = (row_number_from e.0 es all.0 all.1 r.0, row_number_rises es all.1 r.1)

  own_items : (m : Items) → IsOwn n (page_items m n)
  own_items m q apart = get-page_items m n q ∙ by (page_number q == n) refl
    where
      by : (b : Bool) → (page_number q == n) ≡ b → cond b (get m q) None ≡ None
      by true e = absurd (apart (eq_true _ _ e))
      by false e = refl

  -- the entries of a page are its own, in the order of row numbers
  pub of_page : (m : Items) → OfPage n (path_entries (page_items m n))
  of_page m = all_of (path_entries (page_items m n)) (all-in_layout n Tree (page_items m n) (own_items m))

  pub row_numbers_rise : (m : Items) (shown : List ℕ → Bool) → AreRising row_number_of (on_side shown (path_entries (page_items m n)))
  row_numbers_rise m shown = rising_filter row_number_of shown (path_entries (page_items m n)) (row_number_rises (path_entries (page_items m n)) (of_page m) (path_rises (page_items m n)))

  -- a page has no rows of another one
  pub none_of_page : (p : ℕ) → p / 2 ^ 55 ≢ n → (es : Entries) → OfPage n es → in_row p es ≡ []
  none_of_page p apart [] all = refl
  none_of_page p apart (e ∷ es) all =
      elim (row_number_of e.0 == p) as (λ b. (row_number_of e.0 == p) ≡ b → cond b (e ∷ in_row p es) (in_row p es) ≡ []) [
        | true ↦ λ is. absurd (apart (ap (λ x. x / 2 ^ 55) (sym (eq_true _ _ is)) ∙ page_of_row_number e.0 ∙ eq_true _ _ all.0))
        | false ↦ λ is. none_of_page p apart es all.1
      ] refl

module _ (p : ℕ) (shown : List ℕ → Bool) where
  not_here : (side : Bool) → ((j : List ℕ) → row_number_of j ≡ p → shown j ≡ side) → (j : List ℕ) → shown j ≡ not side → (row_number_of j == p) ≡ false
  not_here side keep j is =
      elim (row_number_of j == p) as (λ c. (row_number_of j == p) ≡ c → c ≡ false) [ true ↦ λ h. absurd (clash side (sym (keep j (eq_true _ _ h)) ∙ is)) | false ↦ λ h. refl ] refl
    where
      clash : (b : Bool) → b ≡ not b → ⊥
      clash true e = cc e
      clash false e = cc e

  keep_all : ((j : List ℕ) → row_number_of j ≡ p → shown j ≡ true) → (es : Entries) → in_row p (on_side shown es) ≡ in_row p es
  keep_all keep [] = refl
  keep_all keep (e ∷ es) =
      let below = keep_all keep es in
      elim (shown e.0) as (λ b. shown e.0 ≡ b → in_row p (cond b (e ∷ on_side shown es) (on_side shown es)) ≡ cond (row_number_of e.0 == p) (e ∷ in_row p es) (in_row p es)) [
        | true ↦ λ is i. cond (row_number_of e.0 == p) (e ∷ below i) (below i)
        | false ↦ λ is. below ∙ sym (ap (λ c. cond c (e ∷ in_row p es) (in_row p es)) (not_here true keep e.0 is))
      ] refl

  drop_all : ((j : List ℕ) → row_number_of j ≡ p → shown j ≡ false) → (es : Entries) → in_row p (on_side shown es) ≡ []
  drop_all keep [] = refl
  drop_all keep (e ∷ es) =
      let below = drop_all keep es in
      elim (shown e.0) as (λ b. shown e.0 ≡ b → in_row p (cond b (e ∷ on_side shown es) (on_side shown es)) ≡ []) [
        | true ↦ λ is. ap (λ c. cond c (e ∷ in_row p (on_side shown es)) (in_row p (on_side shown es))) (not_here false keep e.0 is) ∙ below
        | false ↦ λ is. below
      ] refl

  pub none_left : (es : Entries) → in_row p es ≡ [] → in_row p (on_side shown es) ≡ []
  none_left [] h = refl
  none_left (e ∷ es) h =
      elim (row_number_of e.0 == p) as (λ c. (row_number_of e.0 == p) ≡ c → cond c (e ∷ in_row p es) (in_row p es) ≡ [] → in_row p (on_side shown (e ∷ es)) ≡ []) [
        | true ↦ λ is h. absurd (cc h)
        | false ↦ λ is h. elim (shown e.0) as (λ b. in_row p (cond b (e ∷ on_side shown es) (on_side shown es)) ≡ []) [
          | true ↦ ap (λ c. cond c (e ∷ in_row p (on_side shown es)) (in_row p (on_side shown es))) is ∙ none_left es h
          | false ↦ none_left es h
        ]
      ] refl h

some_key : (p : ℕ) (es : Entries) → (in_row p es ≡ []) ⊎ ((k : List ℕ) × (row_number_of k ≡ p))
some_key p [] = inl refl
some_key p (e ∷ es) =
    elim (row_number_of e.0 == p) as (λ c. (row_number_of e.0 == p) ≡ c → (cond c (e ∷ in_row p es) (in_row p es) ≡ []) ⊎ ((k : List ℕ) × (row_number_of k ≡ p))) [ true ↦ λ is. inr (e.0, eq_true _ _ is) | false ↦ λ is. some_key p es ] refl

module _ (old new : Entries) (shown : List ℕ → Bool) (by_front : GoesByFront path_bit 55 shown) (cs : List RowItems) (noted : AreNoted (on_side shown old) (on_side shown new) cs)
    (same : on_side (λ k. not (shown k)) old ≡ on_side (λ k. not (shown k)) new) (p : ℕ) where
  abbrev pub Noted : Type 0
  Noted = IsNotedAt p (in_row p old) (in_row p new) (row_told p cs)

  all_alike : (k : List ℕ) → row_number_of k ≡ p → (side : Bool) → shown k ≡ side → (j : List ℕ) → row_number_of j ≡ p → shown j ≡ side
  all_alike k is side e j h = by_front j k (same_row_number j k (h ∙ sym is)) ∙ e

  if_shown : (k : List ℕ) → row_number_of k ≡ p → shown k ≡ true → Noted
  if_shown k is e =
      subst (λ a. IsNotedAt p a (in_row p new) (row_told p cs)) (keep_all p shown (all_alike k is true e) old)
      (subst (λ b. IsNotedAt p (in_row p (on_side shown old)) b (row_told p cs)) (keep_all p shown (all_alike k is true e) new) (noted p))

  if_not : (k : List ℕ) → row_number_of k ≡ p → shown k ≡ false → Noted
  if_not k is e =
      let none = unnoted p (in_row p (on_side shown old)) (in_row p (on_side shown new)) (row_told p cs) (drop_all p shown (all_alike k is false e) old) (drop_all p shown (all_alike k is false e) new) (noted p) in
      let rest : (j : List ℕ) → row_number_of j ≡ p → not (shown j) ≡ true = λ j h. ap not (all_alike k is false e j h) in
      subst (IsNotedAt p (in_row p old) (in_row p new)) (sym none)
      (sym (keep_all p (λ k. not (shown k)) rest old) ∙ ap (in_row p) same ∙ keep_all p (λ k. not (shown k)) rest new)

  with_key : (k : List ℕ) → row_number_of k ≡ p → Noted
  with_key k is = elim (shown k) as (λ b. shown k ≡ b → Noted) [ true ↦ λ e. if_shown k is e | false ↦ λ e. if_not k is e ] refl

  without : in_row p old ≡ [] → in_row p new ≡ [] → Noted
  without a b =
      let none = unnoted p (in_row p (on_side shown old)) (in_row p (on_side shown new)) (row_told p cs) (none_left p shown old a) (none_left p shown new b) (noted p) in
      subst (IsNotedAt p (in_row p old) (in_row p new)) (sym none) (a ∙ sym b)

  -- what is noted of what is shown is noted of all
  pub noted_all : Noted
  noted_all = by (some_key p old) (some_key p new)
    where
      by : (in_row p old ≡ []) ⊎ ((k : List ℕ) × (row_number_of k ≡ p)) → (in_row p new ≡ []) ⊎ ((k : List ℕ) × (row_number_of k ≡ p)) → Noted
      by (inr k) y = with_key k.0 k.1
      by (inl a) (inr k) = with_key k.0 k.1
      by (inl a) (inl b) = without a b
