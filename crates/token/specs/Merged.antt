-- A page as parts, and what is first in them.
use Rattle.std.specs.Prelude.{◌≡◌, ◌≢◌, ℕ, ◌<◌, List, [], ◌∷◌, length, map, Bool, true, false, filter, ◌==◌, IsTrue, slice_index_or, sum}
use Rattle.std.specs.Borrow.{Bor}
use Rattle.std.specs.Ordering.{is_lt}
use Rattle.std.specs.FinMap.{is_sorted}
use Rattle.items.specs.declared.item.Item.{Item}
use Rattle.items.specs.Map.{by_bytes}

-- the entries whose keys are of class i
abbrev pub of_class : (List ℕ → ℕ) → ℕ → List (List ℕ × Item) → List (List ℕ × Item)
of_class class i es = filter (λ e. class e.0 == i) es

-- part p of such parts
abbrev pub part_at : List (List (List ℕ × Item)) → ℕ → List (List ℕ × Item)
part_at parts p = slice_index_or parts p []

-- A page, and beside it four parts: part i has its entries of class i, in their order.
pub record AreParts (class : List ℕ → ℕ) (whole : List (List ℕ × Item)) (parts : List (List (List ℕ × Item))) : Type 0 where
  pub rising : IsTrue (is_sorted by_bytes whole)
  pub four : length parts ≡ 4
  pub classes : (key : List ℕ) → class key < 4
  pub parted : (i : ℕ) → i < 4 → part_at parts i ≡ of_class class i whole

-- what lent slices have
abbrev pub lent : {X : Type 0} → List (Bor X) → List X
lent slices = map (λ slice. slice.now) slices

-- how many entries the parts have
abbrev pub count_of : List (List (List ℕ × Item)) → ℕ
count_of parts = sum (map length parts)

-- whether the first entry of the one comes before all of the other, by their keys
abbrev pub is_earlier : List (List ℕ × Item) → List (List ℕ × Item) → Bool
is_earlier [] ys = false
is_earlier (x ∷ xs) [] = true
is_earlier (x ∷ xs) (y ∷ ys) = is_lt (by_bytes x.0 y.0)

-- the first entry of part j comes before those of all other parts
abbrev pub IsNext : List (List (List ℕ × Item)) → ℕ → Type 0
IsNext parts j = (i : ℕ) → i < 4 → i ≢ j → (is_earlier (part_at parts j) (part_at parts i) ≡ true) × (is_earlier (part_at parts i) (part_at parts j) ≡ false)
