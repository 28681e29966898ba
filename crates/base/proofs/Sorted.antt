-- What an edit at a key's place does to entries that are in order.
use Rattle.std.proofs.Common.{◌≡◌, ℕ, zero, suc, ◌<◌, ◌≤◌, true, not, List, [], ◌∷◌, length, get_or, set, Some, None, Result, Ok, Err, IfOk, IfErr, refl, sym, ap, ◌∙◌, arith, subst, ◌⊎◌, inl, inr}
use Rattle.std.specs.Prelude.{insert, remove}
use Rattle.std.specs.declared.cmp.Ordering.{Ordering}
use Rattle.std.specs.declared.cmp.Ordering.TheVariants.{Less, Equal, Greater}
use Rattle.std.specs.Ordering.{ordering_reverse, is_lt, eq_by_cmp, ordering_index}
use Rattle.std.specs.Cmp.{IsTotalOrder, alike_right}
use Rattle.std.specs.FinMap.{find, put, is_sorted, IsAntisymmetric}
use Rattle.std.specs.FinMap.Entries.{where_key, below_all}
use Rattle.std.specs.List.Sorted.{IsSearchInRange, IsBinarySearchResult, IsNonDecreasingBy}
use Rattle.std.proofs.lemmas.Bool.{and_parts}
use Rattle.base.specs.Places.{IsAt, IsGap}

same_or_less : (i j : ℕ) → i ≤ j → (i ≡ j) ⊎ (i < j)
same_or_less zero zero h = inl refl
same_or_less zero (suc j) h = inr (omega arith)
same_or_less (suc i) zero h = absurd (omega arith)
same_or_less (suc i) (suc j) h = elim (same_or_less i j (omega arith)) [ inl e ↦ inl (ap suc e) | inr l ↦ inr (omega arith) ]

pub lt_is : (r : Ordering) → is_lt r ≡ true → r ≡ Less
lt_is Less h = refl
lt_is Equal h = cc
lt_is Greater h = cc

module _ {K : Type 0} {R : K → K → Ordering} (o : IsTotalOrder R) where
  turned : (x y : K) (r : Ordering) → R x y ≡ r → R y x ≡ ordering_reverse r
  turned x y r e = o.antisymm y x ∙ ap ordering_reverse e

  index_le : (x y k : K) → R x y ≡ Less → ordering_index (R x k) ≤ ordering_index (R y k)
  index_le x y k l = elim (R y k) as (λ r. R y k ≡ r → ordering_index (R x k) ≤ ordering_index r) [
    | Less ↦ λ e. rw (o.trans x y k l e) (omega arith)
    | Equal ↦ λ e. rw (sym (alike_right o y k x e), l) (omega arith)
    | Greater ↦ λ e. elim (R x k) as (λ r. ordering_index r ≤ 2) [ Less ↦ omega arith | Equal ↦ omega arith | Greater ↦ omega arith ]
  ] refl

module _ {K X : Type 0} {R : K → K → Ordering} (o : IsTotalOrder R) where
  -- the keys before place i are below k
  abbrev pub Below : List (K × X) → K → ℕ → Type 0
  Below es k i = (j : ℕ) (d : K × X) → j < i → R (get_or es j d).0 k ≡ Less

  -- the keys from place i on are above k
  abbrev pub Above : List (K × X) → K → ℕ → Type 0
  Above es k i = (j : ℕ) (d : K × X) → i ≤ j → j < length es → R (get_or es j d).0 k ≡ Greater

  below_rest : (e : K × X) (es : List (K × X)) (k : K) (i : ℕ) → Below (e ∷ es) k (suc i) → Below es k i
  below_rest e es k i b j d h = b (suc j) d (omega arith)

  above_rest : (e : K × X) (es : List (K × X)) (k : K) (i : ℕ) → Above (e ∷ es) k (suc i) → Above es k i
  above_rest e es k i a j d h g = a (suc j) d (omega arith) (omega arith)

  above_all_rest : (e : K × X) (es : List (K × X)) (k : K) → Above (e ∷ es) k zero → Above es k zero
  above_all_rest e es k a j d h g = a (suc j) d (omega arith) (omega arith)

  pub find_gap : (es : List (K × X)) (k : K) (i : ℕ) → Below es k i → Above es k i → i ≤ length es → find R k es ≡ None
  find_gap [] k i b a h = refl
  find_gap (e ∷ es) k zero b a h = rw (turned o e.0 k Greater (a 0 e (omega arith) (omega arith))) (find_gap es k zero (λ j d l. absurd (omega arith)) (above_all_rest e es k a) (omega arith))
  find_gap (e ∷ es) k (suc i) b a h = rw (turned o e.0 k Less (b 0 e (omega arith))) (find_gap es k i (below_rest e es k i b) (above_rest e es k i a) (omega arith))

  pub put_gap : (es : List (K × X)) (k : K) (v : X) (i : ℕ) → Below es k i → Above es k i → i ≤ length es → insert es i (k, v) ≡ put R k v es
  put_gap [] k v zero b a h = refl
  put_gap [] k v (suc i) b a h = absurd (omega arith)
  put_gap (e ∷ es) k v zero b a h = rw (turned o e.0 k Greater (a 0 e (omega arith) (omega arith))) refl
  put_gap (e ∷ es) k v (suc i) b a h = rw (turned o e.0 k Less (b 0 e (omega arith))) (ap (λ xs. e ∷ xs) (put_gap es k v i (below_rest e es k i b) (above_rest e es k i a) (omega arith)))

  pub without_gap : (es : List (K × X)) (k : K) (i : ℕ) → Below es k i → Above es k i → i ≤ length es → where_key R (λ x. not (eq_by_cmp R k x)) es ≡ es
  without_gap [] k i b a h = refl
  without_gap (e ∷ es) k zero b a h = rw (turned o e.0 k Greater (a 0 e (omega arith) (omega arith))) (ap (λ xs. e ∷ xs) (without_gap es k zero (λ j d l. absurd (omega arith)) (above_all_rest e es k a) (omega arith)))
  without_gap (e ∷ es) k (suc i) b a h = rw (turned o e.0 k Less (b 0 e (omega arith))) (ap (λ xs. e ∷ xs) (without_gap es k i (below_rest e es k i b) (above_rest e es k i a) (omega arith)))

  pub less_than_all : (x : K) (es : List (K × X)) → below_all R x es ≡ true → (j : ℕ) (d : K × X) → j < length es → R x (get_or es j d).0 ≡ Less
  less_than_all x [] h j d l = absurd (omega arith)
  less_than_all x (e ∷ es) h zero d l = lt_is _ (and_parts _ _ h).0
  less_than_all x (e ∷ es) h (suc j) d l = less_than_all x es (and_parts _ _ h).1 j d (omega arith)

  pub rises : (es : List (K × X)) → is_sorted R es ≡ true → (i j : ℕ) (d : K × X) → i < j → j < length es → R (get_or es i d).0 (get_or es j d).0 ≡ Less
  rises [] h i j d l g = absurd (omega arith)
  rises (e ∷ es) h i zero d l g = absurd (omega arith)
  rises (e ∷ es) h zero (suc j) d l g = less_than_all e.0 es (and_parts _ _ h).0 j d (omega arith)
  rises (e ∷ es) h (suc i) (suc j) d l g = rises es (and_parts _ _ h).1 i j d (omega arith) (omega arith)

  -- if the entry at place i has the key, those before it are below
  pub below_at : (es : List (K × X)) → is_sorted R es ≡ true → (k : K) (i : ℕ) → i < length es → ((d : K × X) → R (get_or es i d).0 k ≡ Equal) → Below es k i
  below_at es h k i l tie j d g = sym (alike_right o (get_or es i d).0 k (get_or es j d).0 (tie d)) ∙ rises es h j i d g l

  pub find_at : (es : List (K × X)) (k : K) (i : ℕ) → i < length es → Below es k i → ((d : K × X) → R (get_or es i d).0 k ≡ Equal) → (d : K × X) → find R k es ≡ Some (get_or es i d).1
  find_at [] k i l b tie d = absurd (omega arith)
  find_at (e ∷ es) k zero l b tie d = rw (turned o e.0 k Equal (tie d)) refl
  find_at (e ∷ es) k (suc i) l b tie d = rw (turned o e.0 k Less (b 0 e (omega arith))) (find_at es k i (omega arith) (below_rest e es k i b) tie d)

  pub put_at : (es : List (K × X)) (k : K) (i : ℕ) → i < length es → Below es k i → ((d : K × X) → R (get_or es i d).0 k ≡ Equal) → (d : K × X) (v : X) → set es i ((get_or es i d).0, v) ≡ put R k v es
  put_at [] k i l b tie d v = absurd (omega arith)
  put_at (e ∷ es) k zero l b tie d v = rw (turned o e.0 k Equal (tie d)) refl
  put_at (e ∷ es) k (suc i) l b tie d v = rw (turned o e.0 k Less (b 0 e (omega arith))) (ap (λ xs. e ∷ xs) (put_at es k i (omega arith) (below_rest e es k i b) tie d v))

  none_tied : (es : List (K × X)) (k : K) → below_all R k es ≡ true → where_key R (λ x. not (eq_by_cmp R k x)) es ≡ es
  none_tied [] k h = refl
  none_tied (e ∷ es) k h = rw (lt_is (R k e.0) (and_parts _ _ h).0) (ap (λ xs. e ∷ xs) (none_tied es k (and_parts _ _ h).1))

  below_all_tied : (x k : K) (es : List (K × X)) → R x k ≡ Equal → below_all R x es ≡ true → below_all R k es ≡ true
  below_all_tied x k [] t h = refl
  below_all_tied x k (e ∷ es) t h = rw (sym (o.congr x k e.0 t), lt_is (R x e.0) (and_parts _ _ h).0) (below_all_tied x k es t (and_parts _ _ h).1)

  pub remove_at : (es : List (K × X)) → is_sorted R es ≡ true → (k : K) (i : ℕ) → i < length es → Below es k i → ((d : K × X) → R (get_or es i d).0 k ≡ Equal) → remove es i ≡ where_key R (λ x. not (eq_by_cmp R k x)) es
  remove_at [] h k i l b tie = absurd (omega arith)
  remove_at (e ∷ es) h k zero l b tie = rw (turned o e.0 k Equal (tie e)) (sym (none_tied es k (below_all_tied e.0 k es (tie e) (and_parts _ _ h).0)))
  remove_at (e ∷ es) h k (suc i) l b tie = rw (turned o e.0 k Less (b 0 e (omega arith))) (ap (λ xs. e ∷ xs) (remove_at es (and_parts _ _ h).1 k i (omega arith) (below_rest e es k i b) tie))

  pub searchable : (es : List (K × X)) → is_sorted R es ≡ true → (k : K) → IsNonDecreasingBy (λ y. ordering_index (R y.0 k)) es
  searchable es h k zero zero d l g = omega arith
  searchable es h k (suc i) zero d l g = absurd (omega arith)
  searchable es h k zero (suc j) d l g = index_le o _ _ k (rises es h zero (suc j) d (omega arith) g)
  searchable es h k (suc i) (suc j) d l g = elim (same_or_less i j (omega arith)) [
    | inl e ↦ rw e (omega arith)
    | inr m ↦ index_le o _ _ k (rises es h (suc i) (suc j) d (omega arith) g)
  ]

  first_of : (es : List (K × X)) {i : ℕ} → i < length es → K × X
  first_of [] l = absurd (omega arith)
  first_of (e ∷ es) l = e

  -- what a binary search finds
  pub found : IsAntisymmetric R → (es : List (K × X)) → is_sorted R es ≡ true → (k : K) (r : Result ℕ ℕ) → IsSearchInRange r (length es) → IsBinarySearchResult (λ y. R y.0 k) es r → IfOk r (IsAt R es k)
  found only es h k (Ok i) l is =
      let b = below_at es h k i l is in
      record { in_range = l; found = find_at es k i l b is; written = λ v. subst (λ (x : K). set es i (x, v) ≡ put R k v es) (only _ _ (is (first_of es l))) (put_at es k i l b is (first_of es l) v); taken = remove_at es h k i l b is }
  found only es h k (Err i) l is = tt

  pub absent : (es : List (K × X)) → is_sorted R es ≡ true → (k : K) (r : Result ℕ ℕ) → IsSearchInRange r (length es) → IsBinarySearchResult (λ y. R y.0 k) es r → IfErr r (IsGap R es k)
  absent es h k (Ok i) l is = tt
  absent es h k (Err i) l is =
      let parted = is (searchable es h k) in
      let b : Below es k i = λ j d g. parted.0 j d (omega arith) g in
      let a : Above es k i = λ j d g m. parted.1 j d g m in
      record { in_range = l; absent = find_gap es k i b a l; added = λ v. put_gap es k v i b a l; kept = without_gap es k i b a l }
