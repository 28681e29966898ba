-- The map of a sorted list of entries, and what edits of the list do to it.
use Rattle.std.proofs.Common.{◌≡◌, Bool, true, false, cond, not, List, [], ◌∷◌, length, Some, None, IsTrue, Result, Ok, Err, OnOk, OnErr, refl, sym, ap, ◌∙◌, subst}
use Rattle.std.specs.Prelude.{filter, T}
use Rattle.std.specs.List.{items_where_true}
use Rattle.std.specs.declared.cmp.Ordering.{Ordering}
use Rattle.std.specs.declared.cmp.Ordering.TheVariants.{Less, Equal, Greater}
use Rattle.std.specs.Ordering.{eq_by_cmp, is_eq}
use Rattle.std.specs.Cmp.{IsTotalOrder, alike_right, eq_by_cmp_equiv}
use Rattle.std.specs.FinMap.{FinMap, find, put, is_sorted, empty, from_sorted, entries, insert, remove, get, same_entries_map, same_map, IsAntisymmetric, get-remove, empty_of_len, len-entries, entries-from_sorted, get-from_sorted, entries-insert}
use Rattle.std.specs.FinMap.Entries.{where_key, is_sorted-put, is_sorted-where_key, find-where_key, below_all}
use Rattle.std.proofs.lemmas.Bool.{and_parts, and_from}
use Rattle.std.proofs.lemmas.Map.Entries.{option_filter}
use Rattle.base.proofs.Sorted.{lt_is}

turned : {A : Type 0} (b : Bool) (x y : A) → cond (not b) x y ≡ cond b y x
turned true x y = refl
turned false x y = refl

pub as_t : (b : Bool) → IsTrue b → T b
as_t b h = subst T (sym h) tt

pub from_t : (b : Bool) → T b → IsTrue b
from_t true h = refl
from_t false h = absurd h

module _ {K X : Type 0} (R : K → K → Ordering) where
  below_filter : (p : K × X → Bool) (x : K) (es : List (K × X)) → below_all R x es ≡ true → below_all R x (filter p es) ≡ true
  below_filter p x [] h = refl
  below_filter p x (e ∷ es) h = elim (p e) as (λ b. below_all R x (cond b (e ∷ filter p es) (filter p es)) ≡ true) [
    | true ↦ and_from _ _ (and_parts _ _ h).0 (below_filter p x es (and_parts _ _ h).1)
    | false ↦ below_filter p x es (and_parts _ _ h).1
  ]

  pub sorted_filter : (p : K × X → Bool) (es : List (K × X)) → is_sorted R es ≡ true → is_sorted R (filter p es) ≡ true
  sorted_filter p [] h = refl
  sorted_filter p (e ∷ es) h = elim (p e) as (λ b. is_sorted R (cond b (e ∷ filter p es) (filter p es)) ≡ true) [
    | true ↦ and_from _ _ (below_filter p e.0 es (and_parts _ _ h).0) (sorted_filter p es (and_parts _ _ h).1)
    | false ↦ sorted_filter p es (and_parts _ _ h).1
  ]

  below_kept : (bs : List Bool) (x : K) (es : List (K × X)) → below_all R x es ≡ true → below_all R x (items_where_true bs es) ≡ true
  below_kept [] x es h = refl
  below_kept (b ∷ bs) x [] h = refl
  below_kept (true ∷ bs) x (e ∷ es) h = and_from _ _ (and_parts _ _ h).0 (below_kept bs x es (and_parts _ _ h).1)
  below_kept (false ∷ bs) x (e ∷ es) h = below_kept bs x es (and_parts _ _ h).1

  -- what a test leaves is sorted still
  pub sorted_kept : (bs : List Bool) (es : List (K × X)) → is_sorted R es ≡ true → is_sorted R (items_where_true bs es) ≡ true
  sorted_kept [] es h = refl
  sorted_kept (b ∷ bs) [] h = refl
  sorted_kept (true ∷ bs) (e ∷ es) h = and_from _ _ (below_kept bs e.0 es (and_parts _ _ h).0) (sorted_kept bs es (and_parts _ _ h).1)
  sorted_kept (false ∷ bs) (e ∷ es) h = sorted_kept bs es (and_parts _ _ h).1

module _ {K X : Type 0} {R : K → K → Ordering} where
  pub empty_list : from_sorted {X = X} {R = R} [] ≡ empty
  empty_list = empty_of_len _ (len-entries _ ∙ ap length (entries-from_sorted R [] tt))

  -- the lists of two maps decide
  pub from_sorted_is : (es : List (K × X)) (m : FinMap R X) → entries m ≡ es → IsTrue (is_sorted R es) → from_sorted es ≡ m
  from_sorted_is es m e h = same_entries_map _ _ (entries-from_sorted R es (as_t _ h) ∙ sym e)

  pub same_filter : (p : K × X → Bool) (es : List (K × X)) → is_sorted R es ≡ true → from_sorted {R = R} (filter p (entries (from_sorted {R = R} es))) ≡ from_sorted {R = R} (filter p es)
  same_filter p es h = ap (λ xs. from_sorted (filter p xs)) (entries-from_sorted R es (as_t _ h))

module _ {K X : Type 0} {R : K → K → Ordering} where
  -- what the map of a list answers
  pub get_of : (es : List (K × X)) (m : FinMap R X) (q : K) → from_sorted es ≡ m → IsTrue (is_sorted R es) → get m q ≡ find R q es
  get_of es m q e h = sym (ap (λ n. get n q) e) ∙ get-from_sorted R es q (as_t _ h)

module _ {K X : Type 0} {R : K → K → Ordering} (o : IsTotalOrder R) where
  pub sorted_put : (k : K) (v : X) (es : List (K × X)) → IsTrue (is_sorted R es) → IsTrue (is_sorted R (put R k v es))
  sorted_put k v es h = from_t _ (is_sorted-put R o k v es (as_t _ h))

  pub map_put : (k : K) (v : X) (es : List (K × X)) → IsTrue (is_sorted R es) → from_sorted {R = R} (put R k v es) ≡ insert (from_sorted es) k v
  map_put k v es h = from_sorted_is _ _ (entries-insert o _ k v ∙ ap (put R k v) (entries-from_sorted R es (as_t _ h))) (sorted_put k v es h)

  pub sorted_without : (p : K → Bool) (es : List (K × X)) → IsTrue (is_sorted R es) → IsTrue (is_sorted R (where_key R p es))
  sorted_without p es h = from_t _ (is_sorted-where_key R p es (as_t _ h))

  pub map_remove : IsAntisymmetric R → (k : K) (es : List (K × X)) → IsTrue (is_sorted R es) → from_sorted {R = R} (where_key R (λ x. not (eq_by_cmp R k x)) es) ≡ remove (from_sorted es) k
  map_remove same k es h = same_map o same _ _ (λ q.
      let p = λ (x : K). not (eq_by_cmp R k x) in
      let left : get (from_sorted {R = R} (where_key R p es)) q ≡ cond (p q) (find R q es) None = get-from_sorted R _ q (as_t _ (sorted_without p es h))
      ∙ find-where_key R p q (λ x t. ap (λ r. not (is_eq r)) (sym (alike_right o q x k t))) es in
      let right : get (remove (from_sorted {R = R} es) k) q ≡ cond (eq_by_cmp R q k) None (find R q es) = get-remove o _ k q ∙ ap (cond (eq_by_cmp R q k) None) (get-from_sorted R es q (as_t _ h)) in
      left ∙ turned (eq_by_cmp R k q) _ _ ∙ ap (λ b. cond b None (find R q es)) ((eq_by_cmp_equiv o).symm k q) ∙ sym right)

  -- after a put that may fail
  pub put_sorted : {E : Type 0} (r : Result (Unit {0}) E) (es new : List (K × X)) (k : K) (v : X) → IsTrue (is_sorted R es) → OnOk r (new ≡ put R k v es) → OnErr r (new ≡ es) → IsTrue (is_sorted R new)
  put_sorted (Ok x) es new k v h ok err = rw ok (sorted_put k v es h)
  put_sorted (Err x) es new k v h ok err = rw err h

  pub put_map : {E : Type 0} (r : Result (Unit {0}) E) (es new : List (K × X)) (m : FinMap R X) (k : K) (v : X) → from_sorted es ≡ m → IsTrue (is_sorted R es) → OnOk r (new ≡ put R k v es) → OnOk r (from_sorted new ≡ insert m k v)
  put_map (Ok x) es new m k v e h ok = ap from_sorted ok ∙ map_put k v es h ∙ ap (λ n. insert n k v) e
  put_map (Err x) es new m k v e h ok = tt

module _ {K X : Type 0} {R : K → K → Ordering} (o : IsTotalOrder R) where
  -- a key that ties with one below all entries is none of theirs
  find_below : (q x : K) (es : List (K × X)) → R q x ≡ Equal → below_all R x es ≡ true → find R q es ≡ None
  find_below q x [] t h = refl
  find_below q x (e ∷ es) t h =
      let less : R q e.0 ≡ Less = o.congr q x e.0 t ∙ lt_is (R x e.0) (and_parts _ _ h).0 in
      rw less (find_below q x es t (and_parts _ _ h).1)

  -- what a filter by values leaves at a key
  pub find_filter : (p : X → Bool) (q : K) (es : List (K × X)) → is_sorted R es ≡ true → find R q (filter (λ e. p e.1) es) ≡ option_filter p (find R q es)
  find_filter p q [] h = refl
  find_filter p q (e ∷ es) h =
      let rest = find_filter p q es (and_parts _ _ h).1 in
      elim (R q e.0) as (λ r. R q e.0 ≡ r → find R q (filter (λ e. p e.1) (e ∷ es)) ≡ option_filter p (cond (is_eq r) (Some e.1) (find R q es))) [
        | Less ↦ λ is. apart (p e.1) (ap is_eq is) ∙ rest
        | Greater ↦ λ is. apart (p e.1) (ap is_eq is) ∙ rest
        | Equal ↦ λ is.
            let none : find R q (filter (λ e. p e.1) es) ≡ None = rest ∙ ap (option_filter p) (find_below q e.0 es is (and_parts _ _ h).0) in
            elim (p e.1) as (λ b. find R q (cond b (e ∷ filter (λ e. p e.1) es) (filter (λ e. p e.1) es)) ≡ cond b (Some e.1) None) [
              | true ↦ rw is refl
              | false ↦ none
            ]
      ] refl
    where
      apart : (b : Bool) → eq_by_cmp R q e.0 ≡ false → find R q (cond b (e ∷ filter (λ x. p x.1) es) (filter (λ x. p x.1) es)) ≡ find R q (filter (λ x. p x.1) es)
      apart true is = ap (λ t. cond t (Some e.1) (find R q (filter (λ x. p x.1) es))) is
      apart false is = refl
