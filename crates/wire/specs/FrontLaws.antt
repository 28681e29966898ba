-- Fronts of lists.
use Rattle.std.proofs.Common.{◌≡◌, ℕ, ◌<◌, Bool, true, false, List, [], ◌∷◌, ◌++◌, length, refl, ap, arith}
use Rattle.std.specs.Prelude.{◌&&◌, nat_eq}
use Rattle.std.proofs.lemmas.Bool.{eq-eqb}
use Rattle.wire.specs.Number.{only_if}

-- lists of one length at the front of one text are one list
pub split_at : {X : Type 0} (xs ys r s : List X) → length xs ≡ length ys → xs ++ r ≡ ys ++ s → (xs ≡ ys) × (r ≡ s)
split_at [] [] r s l e = (refl, e)
split_at [] (y ∷ ys) r s l e = absurd (omega arith)
split_at (x ∷ xs) [] r s l e = absurd (omega arith)
split_at (x ∷ xs) (y ∷ ys) r s l e =
    let head : x ≡ y = cc in
    let tail : xs ++ r ≡ ys ++ s = cc in
    let both = split_at xs ys r s (omega arith) tail in
    ((λ i. head i ∷ both.0 i), both.1)

-- the first number of a text
abbrev pub head_of : List ℕ → ℕ
head_of [] = 0
head_of (x ∷ xs) = x

pub tail_of : {X : Type 0} (x y : X) (xs ys : List X) → x ∷ xs ≡ y ∷ ys → xs ≡ ys
tail_of x y xs ys e = cc

-- two texts of which each is behind 256 unless its value has bytes
pub data BothWays (a b : Bool) (x y v w r s : List ℕ) : Type 0 where
  has : a ≡ true → b ≡ true → x ++ r ≡ y ++ s → BothWays a b x y v w r s
  lacks : a ≡ false → b ≡ false → v ++ r ≡ w ++ s → BothWays a b x y v w r s

pub both_ways : (a b : Bool) (x y v w r s : List ℕ) → (a ≡ true → head_of (x ++ r) < 256) → (b ≡ true → head_of (y ++ s) < 256)
    → only_if a x v ++ r ≡ only_if b y w ++ s → BothWays a b x y v w r s
both_ways true true x y v w r s p q e = has refl refl e
both_ways false false x y v w r s p q e = lacks refl refl (tail_of 256 256 _ _ e)
both_ways true false x y v w r s p q e =
    let h : head_of (x ++ r) ≡ 256 = ap head_of e in
    absurd (omega (arith, p refl))
both_ways false true x y v w r s p q e =
    let h : 256 ≡ head_of (y ++ s) = ap head_of e in
    absurd (omega (arith, q refl))

pub both_true : (a b : Bool) → a && b ≡ true → (a ≡ true) × (b ≡ true)
both_true true b e = (refl, e)
both_true false b e = absurd (cc e)

-- a test that computes to a fact
abbrev pub Passes : Bool → Type 0
Passes true = Unit {0}
Passes false = ⊥

pub same_numbers : (a b : ℕ) → a ≡ b → Passes (nat_eq a b)
same_numbers a b e = rw (eq-eqb a b e) tt
