-- Lists whose members are changed one after the other.
use Rattle.std.proofs.Common.{◌≡◌, ℕ, zero, suc, ◌+◌, ◌<◌, List, [], ◌∷◌, ◌++◌, map, length, take, drop, get_or, set, sym, ap, ◌∙◌, arith, refl}

one_more : (i : ℕ) → suc i + 1 ≡ suc (i + 1)
one_more i = omega arith

module _ {A : Type 0} (f : A → A) where
  -- the member that comes next is still as it was
  pub next-same : (xs : List A) (i : ℕ) (d : A) → i < length xs → get_or (map f (take i xs) ++ drop i xs) i d ≡ get_or xs i d
  next-same [] i d l = absurd (omega arith)
  next-same (x ∷ xs) zero d l = refl
  next-same (x ∷ xs) (suc i) d l = next-same xs i d (omega arith)

  -- the next member is changed, too
  pub next-changed : (xs : List A) (i : ℕ) (d : A) → i < length xs → set (map f (take i xs) ++ drop i xs) i (f (get_or xs i d)) ≡ map f (take (i + 1) xs) ++ drop (i + 1) xs
  next-changed [] i d l = absurd (omega arith)
  next-changed (x ∷ xs) zero d l = refl
  next-changed (x ∷ xs) (suc i) d l =
      ap (λ ys. f x ∷ ys) (next-changed xs i d (omega arith)) ∙ ap (λ n. map f (take n (x ∷ xs)) ++ drop n (x ∷ xs)) (sym (one_more i))
