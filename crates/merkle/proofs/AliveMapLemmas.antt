-- What is alive of the entries of a map is what is alive of the map.
use Rattle.std.proofs.Common.{◌≡◌, ℕ, ◌+◌, ◌<◌, Bool, true, false, cond, List, [], ◌∷◌, length, Option, Some, None, refl, sym, ap, ◌∙◌, subst, arith}
use Rattle.std.specs.Prelude.{T, filter, is_some}
use Rattle.std.specs.declared.cmp.Ordering.{Ordering}
use Rattle.std.specs.declared.cmp.Ordering.TheVariants.{Less, Equal, Greater}
use Rattle.std.specs.Ordering.{eq_by_cmp, is_eq, is_lt}
use Rattle.std.specs.Cmp.{IsTotalOrder}
use Rattle.std.specs.FinMap.{FinMap, empty, entries, from_sorted, find, is_sorted, len, IsAntisymmetric, entries_sorted, same_map, get-entries, get-from_entries, get-from_sorted, from_entries, len-entries, len-empty, len-insert}
use Rattle.std.specs.FinMap.Entries.{below_all}
use Rattle.std.proofs.lemmas.Bool.{and_parts, and_from}
use Rattle.merkle.specs.Alive.{is_above, alive_entries, alive_map}
use Rattle.merkle.specs.Shape.{Shape, pairs, IsTrie, least}
use Rattle.merkle.proofs.AliveLemmas.{all_alive, fewer_alive}
use Rattle.merkle.proofs.FindLemmas.{equal_of}
use Rattle.merkle.proofs.MapLemmas.{Unique, unique_pairs}

t_of : (b : Bool) → b ≡ true → T b
t_of b h = subst T (sym h) tt

true_of : (b : Bool) → T b → b ≡ true
true_of true h = refl
true_of false h = absurd h

if_above : {V : Type 0} → (V → Bool) → Option V → Option V
if_above p None = None
if_above p (Some v) = cond (p v) (Some v) None

module _ {K V : Type 0} {R : K → K → Ordering} (o : IsTotalOrder R) (same : IsAntisymmetric R) (p : V → Bool) where
  absent : (q : K) (e : K × V) (es : List (K × V)) → R q e.0 ≡ Equal → find R e.0 es ≡ None → find R q es ≡ None
  absent q e es t h = ap (λ k. find R k es) (same q e.0 t) ∙ h

  -- of entries in which no key comes twice
  find_alive : (q : K) (es : List (K × V)) → Unique R es → find R q (filter (λ e. p e.1) es) ≡ if_above p (find R q es)
  unfolding if_above
  find_alive q [] u = refl
  find_alive q (e ∷ es) u = by (p e.1) (eq_by_cmp R q e.0) refl refl (find_alive q es u.1)
    where
      by : (b c : Bool) → p e.1 ≡ b → eq_by_cmp R q e.0 ≡ c → find R q (filter (λ x. p x.1) es) ≡ if_above p (find R q es)
          → find R q (cond b (e ∷ filter (λ x. p x.1) es) (filter (λ x. p x.1) es)) ≡ if_above p (cond c (Some e.1) (find R q es))
      by true true f g rest = ap (λ c. cond c (Some e.1) (find R q (filter (λ x. p x.1) es))) g ∙ sym (ap (λ b. cond b (Some e.1) None) f)
      by true false f g rest = ap (λ c. cond c (Some e.1) (find R q (filter (λ x. p x.1) es))) g ∙ rest
      by false true f g rest = rest ∙ ap (if_above p) (absent q e es (equal_of _ g) u.0) ∙ sym (ap (λ b. cond b (Some e.1) None) f)
      by false false f g rest = rest

  unique_alive : (es : List (K × V)) → Unique R es → Unique R (filter (λ e. p e.1) es)
  unfolding if_above
  unique_alive [] u = tt
  unique_alive (e ∷ es) u =
      elim (p e.1) as (λ b. Unique R (cond b (e ∷ filter (λ x. p x.1) es) (filter (λ x. p x.1) es))) [
        | true ↦ (find_alive e.0 es u.1 ∙ ap (if_above p) u.0, unique_alive es u.1)
        | false ↦ unique_alive es u.1
      ]

  -- sorted ones are such
  none_below : (x : K) (es : List (K × V)) → T (below_all R x es) → find R x es ≡ None
  none_below x [] h = refl
  none_below x (e ∷ es) h =
      let parts = and_parts (is_lt (R x e.0)) (below_all R x es) (true_of _ h) in
      ap (λ b. cond b (Some e.1) (find R x es)) (apart (R x e.0) parts.0) ∙ none_below x es (t_of _ parts.1)
    where
      apart : (r : Ordering) → is_lt r ≡ true → is_eq r ≡ false
      apart Less h = refl
      apart Equal h = cc
      apart Greater h = refl

  sorted_unique : (es : List (K × V)) → T (is_sorted R es) → Unique R es
  sorted_unique [] h = tt
  sorted_unique (e ∷ es) h =
      let parts = and_parts (below_all R e.0 es) (is_sorted R es) (true_of _ h) in
      (none_below e.0 es (t_of _ parts.0), sorted_unique es (t_of _ parts.1))

  below_alive : (x : K) (es : List (K × V)) → below_all R x es ≡ true → below_all R x (filter (λ e. p e.1) es) ≡ true
  below_alive x [] h = refl
  below_alive x (e ∷ es) h = elim (p e.1) as (λ b. below_all R x (cond b (e ∷ filter (λ e. p e.1) es) (filter (λ e. p e.1) es)) ≡ true) [
    | true ↦ and_from _ _ (and_parts _ _ h).0 (below_alive x es (and_parts _ _ h).1)
    | false ↦ below_alive x es (and_parts _ _ h).1
  ]

  sorted_alive : (es : List (K × V)) → is_sorted R es ≡ true → is_sorted R (filter (λ e. p e.1) es) ≡ true
  sorted_alive [] h = refl
  sorted_alive (e ∷ es) h = elim (p e.1) as (λ b. is_sorted R (cond b (e ∷ filter (λ e. p e.1) es) (filter (λ e. p e.1) es)) ≡ true) [
    | true ↦ and_from _ _ (below_alive e.0 es (and_parts _ _ h).0) (sorted_alive es (and_parts _ _ h).1)
    | false ↦ sorted_alive es (and_parts _ _ h).1
  ]

  pub alive_of_map : (es : List (K × V)) → Unique R es → from_entries {R = R} (filter (λ e. p e.1) es) ≡ from_sorted (filter (λ e. p e.1) (entries (from_entries {R = R} es)))
  alive_of_map es u =
      let m : FinMap R V = from_entries {R = R} es in
      let rises : T (is_sorted R (filter (λ e. p e.1) (entries m))) = t_of _ (sorted_alive (entries m) (true_of _ (entries_sorted m))) in
      same_map o same _ _ (λ q.
      get-from_entries o (filter (λ e. p e.1) es) q ∙ find_alive q es u ∙ ap (if_above p) (sym (get-from_entries o es q) ∙ get-entries m q)
      ∙ sym (get-from_sorted R (filter (λ e. p e.1) (entries m)) q rises ∙ find_alive q (entries m) (sorted_unique (entries m) (entries_sorted m))))

module _ {K V : Type 0} {R : K → K → Ordering} (o : IsTotalOrder R) (same : IsAntisymmetric R) where
  pub dropped : (due : V → Option ℕ) (moment : ℕ) (bit : K → ℕ → Bool) (bits : ℕ) (s : Shape K V) (new : List (K × V)) → IsTrie bit bits 0 s → new ≡ alive_entries due moment (pairs s) → from_entries {R = R} new ≡ alive_map due moment (from_entries (pairs s))
  dropped due moment bit bits s new st e = ap (λ es. from_entries {R = R} es) e ∙ alive_of_map o same (λ v. is_above moment (due v)) (pairs s) (unique_pairs o same bit bits 0 s st)

  -- a map of entries in which no key comes twice has as many
  pub length_unique : (es : List (K × V)) → Unique R es → length (entries (from_entries {R = R} es)) ≡ length es
  length_unique [] u = sym (len-entries empty) ∙ len-empty R V
  length_unique (e ∷ es) u =
      let m : FinMap R V = from_entries {R = R} es in
      let rest : len m ≡ length es = len-entries m ∙ length_unique es u.1 in
      sym (len-entries (from_entries {R = R} (e ∷ es))) ∙ len-insert o m e.0 e.1 ∙ ap (λ v. cond (is_some v) (len m) (len m + 1)) (get-from_entries o es e.0 ∙ u.0) ∙ omega (arith, rest)

  pub none_due : (due : V → Option ℕ) (moment : ℕ) (bit : K → ℕ → Bool) (bits : ℕ) (s : Shape K V) → IsTrie bit bits 0 s → is_above moment (least due s) ≡ true → alive_map due moment (from_entries {R = R} (pairs s)) ≡ from_entries (pairs s)
  none_due due moment bit bits s st above = sym (dropped due moment bit bits s (pairs s) st (sym (all_alive due moment s above)))

  pub some_due : (due : V → Option ℕ) (moment : ℕ) (bit : K → ℕ → Bool) (bits : ℕ) (s : Shape K V) → IsTrie bit bits 0 s → is_above moment (least due s) ≡ false → alive_map due moment (from_entries {R = R} (pairs s)) ≡ from_entries (pairs s) → ⊥
  some_due due moment bit bits s st low e =
      let u = unique_pairs o same bit bits 0 s st in
      let left : List (K × V) = alive_entries due moment (pairs s) in
      let less : length left < length (pairs s) = fewer_alive due moment s low in
      let as_many : length left ≡ length (pairs s) = sym (length_unique left (unique_alive o same (λ v. is_above moment (due v)) (pairs s) u)) ∙ ap (λ m. length (entries m)) (dropped due moment bit bits s left st refl ∙ e) ∙ length_unique (pairs s) u in
      omega arith
