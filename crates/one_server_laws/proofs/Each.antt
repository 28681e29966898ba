-- Lists of which each element is such a one.
use Rattle.std.proofs.Common.{◌≡◌, ℕ, zero, suc, Bool, List, [], ◌∷◌, ◌++◌, take, filter, Some, slice_get, subst, ⊎_elim}
use Rattle.std.specs.Prelude.{Contains}
use Rattle.std.specs.List.{AllByRecursion}
use Rattle.std.proofs.lemmas.Bool.{cond_both}
use Rattle.run_laws.proofs.Elements.{in_head, in_tail, in_none, first_or_other}
use Rattle.custody_laws.specs.Durable.{In, first, later}

module _ {X : Type 0} (P : X → Type 0) where
  pub each_of_both : (xs ys : List X) → AllByRecursion P xs → AllByRecursion P ys → AllByRecursion P (xs ++ ys)
  each_of_both [] ys h k = k
  each_of_both (x ∷ xs) ys h k = (h.0, each_of_both xs ys h.1 k)

  pub each_taken : (n : ℕ) (xs : List X) → AllByRecursion P xs → AllByRecursion P (take n xs)
  each_taken zero xs h = tt
  each_taken (suc n) [] h = tt
  each_taken (suc n) (x ∷ xs) h = (h.0, each_taken n xs h.1)

  pub each_filtered : (test : X → Bool) (xs : List X) → AllByRecursion P xs → AllByRecursion P (filter test xs)
  each_filtered test [] h = tt
  each_filtered test (x ∷ xs) h = cond_both (test x) (x ∷ filter test xs) (filter test xs) (AllByRecursion P) (λ _. (h.0, each_filtered test xs h.1)) (λ _. each_filtered test xs h.1)

  pub each_at : (xs : List X) (k : ℕ) (x : X) → AllByRecursion P xs → slice_get xs k ≡ Some x → P x
  each_at [] k x h e = absurd (cc e)
  each_at (y ∷ xs) zero x h e = let same : y ≡ x = cc e in subst P same h.0
  each_at (y ∷ xs) (suc k) x h e = each_at xs k x h.1 e

  pub each_in : (xs : List X) (x : X) → AllByRecursion P xs → Contains xs x → P x
  each_in [] x h c = absurd (in_none x c)
  each_in (y ∷ xs) x h c = ⊎_elim (λ (same : y ≡ x). subst P same h.0) (λ more. each_in xs x h.1 more) (first_or_other y x xs c)

  pub each_among : (xs : List X) (x : X) → AllByRecursion P xs → In x xs → P x
  each_among [] x h i = elim i [ ]
  each_among (y ∷ xs) x h (first same) = subst P same h.0
  each_among (y ∷ xs) x h (later i) = each_among xs x h.1 i

pub contains_at : {X : Type 0} (xs : List X) (k : ℕ) (x : X) → slice_get xs k ≡ Some x → Contains xs x
contains_at [] k x e = absurd (cc e)
contains_at (y ∷ xs) zero x e = let same : y ≡ x = cc e in subst (Contains (y ∷ xs)) same (in_head y xs)
contains_at (y ∷ xs) (suc k) x e = in_tail y x xs (contains_at xs k x e)

pub each_implies : {X : Type 0} (P Q : X → Type 0) → ((x : X) → P x → Q x) → (xs : List X) → AllByRecursion P xs → AllByRecursion Q xs
each_implies P Q f [] h = tt
each_implies P Q f (x ∷ xs) h = (f x h.0, each_implies P Q f xs h.1)
