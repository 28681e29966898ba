-- What a file says of rows: those that it has, and over them what became of rows since, in order.
use Rattle.std.specs.Prelude.{◌≡◌, ℕ, ◌==◌, if◌then◌else◌, List, [], ◌∷◌, Option, Some, None, IsSome}

abbrev pub Rows : Type 0 → Type 0
Rows X = ℕ → Option X

-- what is in a row since, if something is
abbrev pub ItemChange : Type 0 → Type 0
ItemChange X = ℕ × Option X

module _ {X : Type 0} where
  abbrev pub with_change : Rows X → ItemChange X → Rows X
  with_change rows c p = if p == c.0 then c.1 else rows p

  -- the rows, with these changes in order: of two of one row the later one holds
  abbrev pub rows_after : Rows X → List (ItemChange X) → Rows X
  rows_after rows [] = rows
  rows_after rows (c ∷ cs) = rows_after (with_change rows c) cs

  abbrev pub or_first : Option (Option X) → Option (Option X) → Option (Option X)
  or_first (Some v) first = Some v
  or_first None first = first

  -- the last of these changes of this row, if there is one
  abbrev pub last_change : ℕ → List (ItemChange X) → Option (Option X)
  last_change p [] = None
  last_change p (c ∷ cs) = or_first (last_change p cs) (if p == c.0 then Some c.1 else None)

  abbrev pub IsNamed : ℕ → List (ItemChange X) → Type 0
  IsNamed p cs = IsSome (last_change p cs)

  abbrev pub IsUnnamed : ℕ → List (ItemChange X) → Type 0
  IsUnnamed p cs = last_change p cs ≡ None
