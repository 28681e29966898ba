-- Letters that are held, and how many bytes they have.
use Rattle.std.proofs.Common.{◌≡◌, ℕ, ◌+◌, ◌≤◌, List, [], ◌∷◌, ◌++◌, length, drop, arith}
use Rattle.std.proofs.lemmas.List.Sums.{sum_by-cons, sum_by_push, sum_by-take-drop}
use Rattle.links.specs.Sending.{bytes_held}

pub bytes_held-push : (letters : List (List ℕ)) (letter : List ℕ) → bytes_held (letters ++ letter ∷ []) ≡ bytes_held letters + length letter
bytes_held-push letters letter = sum_by_push (λ (xs : List ℕ). length xs) letters letter

pub bytes_held-cons : (letter : List ℕ) (letters : List (List ℕ)) → bytes_held (letter ∷ letters) ≡ length letter + bytes_held letters
bytes_held-cons letter letters = sum_by-cons (λ (xs : List ℕ). length xs) letter letters

-- what is left is not more
pub bytes_held-drop : (n : ℕ) (letters : List (List ℕ)) → bytes_held (drop n letters) ≤ bytes_held letters
bytes_held-drop n letters = omega (arith, sum_by-take-drop (λ (xs : List ℕ). length xs) letters n)
