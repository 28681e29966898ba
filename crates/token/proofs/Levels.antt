-- The levels of a tree over two halves are those of the halves, side by side.
use Rattle.std.proofs.Common.{◌≡◌, ℕ, zero, suc, ◌+◌, ◌-◌, ◌*◌, ◌/◌, ◌^◌, List, [], ◌∷◌, ◌++◌, length, refl, ◌∙◌, ap, arith}
use Rattle.std.proofs.Math.Nat.{pow-succ'}
use Rattle.wire.specs.Token.{inner_text}
use Rattle.token.specs.Digest.{digest, level, levels}

-- a list of twice as many
pub level-append : (m : ℕ) (xs ys : List (List ℕ)) → length xs ≡ 2 * m → level (xs ++ ys) ≡ level xs ++ level ys
level-append m [] ys e = refl
level-append m (x ∷ []) ys e = absurd (omega arith)
level-append zero (x ∷ y ∷ xs) ys e = absurd (omega arith)
level-append (suc m) (x ∷ y ∷ xs) ys e = ap (λ (t : List (List ℕ)). digest (inner_text (record { left = x; right = y })) ∷ t) (level-append m xs ys (omega arith))

pub length-level : (m : ℕ) (xs : List (List ℕ)) → length xs ≡ 2 * m → length (level xs) ≡ m
length-level zero [] e = refl
length-level (suc m) [] e = absurd (omega arith)
length-level m (x ∷ []) e = absurd (omega arith)
length-level zero (x ∷ y ∷ xs) e = absurd (omega arith)
length-level (suc m) (x ∷ y ∷ xs) e = ap suc (length-level m xs (omega arith))

pub levels-append : (n : ℕ) (xs ys : List (List ℕ)) → length xs ≡ 2 ^ n → levels n (xs ++ ys) ≡ levels n xs ++ levels n ys
levels-append zero xs ys e = refl
levels-append (suc n) xs ys e =
    let twice : length xs ≡ 2 * 2 ^ n = e ∙ pow-succ' 2 n in
    ap (levels n) (level-append (2 ^ n) xs ys twice) ∙ levels-append n (level xs) (level ys) (length-level (2 ^ n) xs twice)

-- the last level is the level above the others
last_level : (n : ℕ) (xs : List (List ℕ)) → levels (suc n) xs ≡ level (levels n xs)
last_level zero xs = refl
last_level (suc n) xs = last_level n (level xs)

above : (h : ℕ) → (h ≡ 0 → ⊥) → h ≡ suc (h - 1)
above zero not = absurd (not refl)
above (suc h) not = omega arith

-- half of the leaves of a tree that is no leaf
pub half : (h n : ℕ) → (h ≡ 0 → ⊥) → n ≡ 2 ^ h → (n / 2 ≡ 2 ^ (h - 1)) × (n ≡ n / 2 + n / 2)
half h n not e =
    let twice : n ≡ 2 * 2 ^ (h - 1) = e ∙ (ap (λ (k : ℕ). 2 ^ k) (above h not) ∙ pow-succ' 2 (h - 1)) in
    (omega arith, omega arith)

pub over_halves : (h : ℕ) (leaves front back : List (List ℕ)) (left right : List ℕ) → (h ≡ 0 → ⊥) → leaves ≡ front ++ back → length front ≡ 2 ^ (h - 1)
    → levels (h - 1) front ≡ left ∷ [] → levels (h - 1) back ≡ right ∷ [] → levels h leaves ≡ digest (inner_text (record { left = left; right = right })) ∷ []
over_halves h leaves front back left right not parts len l r =
    let both : levels (h - 1) leaves ≡ left ∷ right ∷ [] =
    ap (levels (h - 1)) parts ∙ (levels-append (h - 1) front back len ∙ rw (l, r) refl) in
    ap (λ (k : ℕ). levels k leaves) (above h not) ∙ (last_level (h - 1) leaves ∙ ap level both)
