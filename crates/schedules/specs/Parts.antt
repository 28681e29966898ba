-- Texts in parts: a word, a space, and what follows it.
use Rattle.std.specs.Prelude.{◌≡◌, ℕ, ◌==◌, List, [], ◌∷◌, ◌++◌, Option, Some, None, if◌then◌else◌}
use Rattle.std.specs.Option.{option_map}
use Rattle.proto.specs.Line.{◌>>=◌}

-- the word, a space, and a text of which this holds
abbrev pub BeginsWith : List ℕ → (List ℕ → Type 0) → List ℕ → Type 0
BeginsWith word P text = (rest : List ℕ) × (text ≡ word ++ 32 ∷ rest) × P rest

-- a text of which the one holds, a space, and a text of which the other holds
abbrev pub Joins : (List ℕ → Type 0) → (List ℕ → Type 0) → List ℕ → Type 0
Joins P Q text = (front : List ℕ) × (back : List ℕ) × (text ≡ front ++ 32 ∷ back) × P front × Q back

-- what is before the first such byte, and what after it; none if there is none
abbrev pub parted : ℕ → List ℕ → Option (List ℕ × List ℕ)
parted separator [] = None
parted separator (b ∷ bs) = if b == separator then Some ([], bs) else option_map (λ p. (b ∷ p.0, p.1)) (parted separator bs)

-- two values, of what is before the first space, and of what is after it
abbrev pub pair_said : {A B : Type 0} → (List ℕ → Option A) → (List ℕ → Option B) → List ℕ → Option (A × B)
pair_said first second text = do
  p ← parted 32 text
  a ← first p.0
  b ← second p.1
  Some (a, b)
