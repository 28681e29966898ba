-- Lists by what is at their places.
use Rattle.std.proofs.Common.{◌≡◌, ◌≢◌, ◌⊎◌, ℕ, zero, suc, ◌+◌, ◌<◌, Bool, true, false, cond, List, [], ◌∷◌, ◌++◌, map, length, set, Some, None, refl, sym, ap, ◌∙◌, inl, inr, ⊎_elim, arith, subst}
use Rattle.std.specs.Prelude.{slice_get}
use Rattle.std.specs.List.{filter, AllByRecursion, list_all, range_with_len}
use Rattle.std.proofs.lemmas.Bool.{and_parts}

module _ {X : Type 0} where
  no_element : {A : Type 0} (x : X) → None ≡ Some x → A
  no_element x e = absurd cc

  pub same_element : (x y : X) → Some x ≡ Some y → x ≡ y
  same_element x y e = cc

  pub get_set : (l : List X) (j : ℕ) (w : X) (i : ℕ) (u : X) → slice_get (set l j w) i ≡ Some u → ((i ≡ j) × (w ≡ u)) ⊎ ((i ≢ j) × (slice_get l i ≡ Some u))
  get_set [] j w i u e = no_element u e
  get_set (x ∷ xs) zero w zero u e = inl (refl, same_element w u e)
  get_set (x ∷ xs) zero w (suc i) u e = inr ((λ h. omega arith), e)
  get_set (x ∷ xs) (suc j) w zero u e = inr ((λ h. omega arith), e)
  get_set (x ∷ xs) (suc j) w (suc i) u e = ⊎_elim (λ t. inl (ap suc t.0, t.1)) (λ t. inr ((λ h. t.0 (omega arith)), t.1)) (get_set xs j w i u e)

  pub set_there : (l : List X) (j : ℕ) (w x : X) → slice_get l j ≡ Some x → slice_get (set l j w) j ≡ Some w
  set_there [] j w x e = no_element x e
  set_there (y ∷ ys) zero w x e = refl
  set_there (y ∷ ys) (suc j) w x e = set_there ys j w x e

  pub set_else : (l : List X) (j : ℕ) (w : X) (i : ℕ) → i ≢ j → slice_get (set l j w) i ≡ slice_get l i
  set_else [] j w i n = refl
  set_else (y ∷ ys) zero w zero n = absurd (n refl)
  set_else (y ∷ ys) zero w (suc i) n = refl
  set_else (y ∷ ys) (suc j) w zero n = refl
  set_else (y ∷ ys) (suc j) w (suc i) n = set_else ys j w i (λ h. n (ap suc h))

  -- what passes the test is kept
  pub in_filter : (test : X → Bool) (l : List X) (i : ℕ) (x : X) → slice_get l i ≡ Some x → test x ≡ true → (j : ℕ) × (slice_get (filter test l) j ≡ Some x)
  in_filter test [] i x at is = no_element x at
  in_filter test (y ∷ ys) zero x at is = (0, subst (λ b. slice_get (cond b (y ∷ filter test ys) (filter test ys)) 0 ≡ Some x) (sym (ap test (same_element y x at) ∙ is)) at)
  in_filter test (y ∷ ys) (suc i) x at is = by (in_filter test ys i x at is) (test y)
    where
      by : (j : ℕ) × (slice_get (filter test ys) j ≡ Some x) → (b : Bool) → (j : ℕ) × (slice_get (cond b (y ∷ filter test ys) (filter test ys)) j ≡ Some x)
      by r true = (suc r.0, r.1)
      by r false = r

  -- a test that only passes if another does
  pub filter_within : (p q : X → Bool) (l : List X) → ((i : ℕ) (x : X) → slice_get l i ≡ Some x → p x ≡ true → q x ≡ true) → filter p (filter q l) ≡ filter p l
  filter_within p q [] h = refl
  filter_within p q (x ∷ l) h = by (filter_within p q l (λ i y at. h (suc i) y at)) (p x) (q x) refl refl
    where
      by : filter p (filter q l) ≡ filter p l → (b c : Bool) → p x ≡ b → q x ≡ c → filter p (cond c (x ∷ filter q l) (filter q l)) ≡ cond b (x ∷ filter p l) (filter p l)
      by r true true is in_q = ap (λ b. cond b (x ∷ filter p (filter q l)) (filter p (filter q l))) is ∙ ap (λ m. x ∷ m) r
      by r true false is off = absurd (let no : true ≡ false = sym (h 0 x refl is) ∙ off in cc)
      by r false true is in_q = ap (λ b. cond b (x ∷ filter p (filter q l)) (filter p (filter q l))) is ∙ r
      by r false false is off = r

  pub all_at : (P : X → Type 0) (l : List X) → AllByRecursion P l → (i : ℕ) (x : X) → slice_get l i ≡ Some x → P x
  all_at P [] all i x at = no_element x at
  all_at P (y ∷ ys) all zero x at = subst P (same_element y x at) all.0
  all_at P (y ∷ ys) all (suc i) x at = all_at P ys all.1 i x at

  pub all_from : (P : X → Type 0) (l : List X) → ((i : ℕ) (x : X) → slice_get l i ≡ Some x → P x) → AllByRecursion P l
  all_from P [] h = tt
  all_from P (x ∷ xs) h = (h 0 x refl, all_from P xs (λ i y at. h (suc i) y at))

  pub all_push : (P : X → Type 0) (l : List X) (x : X) → AllByRecursion P l → P x → AllByRecursion P (l ++ x ∷ [])
  all_push P [] x all is = (is, tt)
  all_push P (y ∷ ys) x all is = (all.0, all_push P ys x all.1 is)

  pub list_all_at : (p : X → Bool) (l : List X) → list_all p l ≡ true → (i : ℕ) (x : X) → slice_get l i ≡ Some x → p x ≡ true
  list_all_at p [] all i x at = no_element x at
  list_all_at p (y ∷ ys) all zero x at = ap p (sym (same_element y x at)) ∙ (and_parts (p y) (list_all p ys) all).0
  list_all_at p (y ∷ ys) all (suc i) x at = list_all_at p ys (and_parts (p y) (list_all p ys) all).1 i x at

  pub get_last : (l : List X) (x : X) → slice_get (l ++ x ∷ []) (length l) ≡ Some x
  get_last [] x = refl
  get_last (y ∷ ys) x = get_last ys x

  -- an element of a longer list is an earlier one or the last
  pub get_push : (l : List X) (x : X) (i : ℕ) (u : X) → slice_get (l ++ x ∷ []) i ≡ Some u → (slice_get l i ≡ Some u) ⊎ (x ≡ u)
  get_push [] x zero u e = inr (same_element x u e)
  get_push [] x (suc i) u e = no_element u e
  get_push (y ∷ ys) x zero u e = inl e
  get_push (y ∷ ys) x (suc i) u e = get_push ys x i u e

  pub nil_from : (l : List X) → length l ≡ 0 → l ≡ []
  nil_from [] h = refl
  nil_from (x ∷ xs) h = absurd (omega arith)

  pub same_head : (x y : X) (xs ys : List X) → x ∷ xs ≡ y ∷ ys → x ≡ y
  same_head x y xs ys e = cc

  pub same_tail : (x y : X) (xs ys : List X) → x ∷ xs ≡ y ∷ ys → xs ≡ ys
  same_tail x y xs ys e = cc

  no_cons : {A : Type 0} (x : X) (xs : List X) → x ∷ xs ≡ [] → A
  no_cons x xs e = absurd cc

module _ {X Y : Type 0} where
  pub map_same : (f g : X → Y) (l : List X) → ((i : ℕ) (x : X) → slice_get l i ≡ Some x → f x ≡ g x) → map f l ≡ map g l
  map_same f g [] h = refl
  map_same f g (x ∷ l) h = λ i. h 0 x refl i ∷ map_same f g l (λ j y at. h (suc j) y at) i

  pub map_at : (f : X → Y) (l : List X) (i : ℕ) (x : X) → slice_get l i ≡ Some x → slice_get (map f l) i ≡ Some (f x)
  map_at f [] i x at = no_element x at
  map_at f (y ∷ ys) zero x at = ap (λ z. Some (f z)) (same_element y x at)
  map_at f (y ∷ ys) (suc i) x at = map_at f ys i x at

-- what is behind a front of the values at a range
pub at_range : {Y : Type 0} (f : ℕ → Y) (n from : ℕ) (front : List Y) (y : Y) (back : List Y) → front ++ y ∷ back ≡ map f (range_with_len from n) → (y ≡ f (from + length front)) × (length front < n)
at_range f zero from [] y back e = no_cons y back e
at_range f zero from (x ∷ front) y back e = no_cons x (front ++ y ∷ back) e
at_range f (suc n) from [] y back e =
    let zer : from ≡ from + 0 = omega arith in
    (same_head y (f from) back (map f (range_with_len (from + 1) n)) e ∙ ap f zer, omega arith)
at_range f (suc n) from (x ∷ front) y back e =
    let r = at_range f n (from + 1) front y back (same_tail x (f from) (front ++ y ∷ back) (map f (range_with_len (from + 1) n)) e) in
    let more : (from + 1) + length front ≡ from + length (x ∷ front) = omega arith in
    let small : length front < n = r.1 in
    (r.0 ∙ ap f more, omega arith)
