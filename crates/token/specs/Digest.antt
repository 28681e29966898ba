-- The digest of a text, and the tree over the digests of pages.
use Rattle.std.specs.Prelude.{ℕ, zero, suc, List, [], ◌∷◌}
use Rattle.sha2.specs.Sha256.{sha256}
use Rattle.wire.specs.Token.{inner_text}

unfoldable pub digest : List ℕ → List ℕ
digest text = sha256 text

-- neighbours together
abbrev pub level : List (List ℕ) → List (List ℕ)
level (left ∷ right ∷ others) = digest (inner_text (record { left = left; right = right })) ∷ level others
level others = []

-- so many levels up
abbrev pub levels : ℕ → List (List ℕ) → List (List ℕ)
levels zero digests = digests
levels (suc n) digests = levels n (level digests)

abbrev pub only : List (List ℕ) → List ℕ
only (one ∷ []) = one
only others = []

-- the root over 2^height digests: the one that is left so many levels up
unfoldable pub root_of : ℕ → List (List ℕ) → List ℕ
root_of height digests = only (levels height digests)
