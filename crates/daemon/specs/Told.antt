-- When a line of one kind is due, and what it tells.
use Rattle.std.specs.Prelude.{ℕ, Bool, false, not, ◌&&◌, ◌+◌, ◌-◌, ◌==◌, ◌<◌, ◌≤◌, nat_lt, List, [], ◌∷◌, ⊤, cond, Option, Some, None, if◌then◌else◌}
use Rattle.daemon.specs.declared.told.Told.{Told}

-- so much happened before the first line
abbrev pub told_since : ℕ → Told
told_since count = record { count = count; second = None }

-- whether the last line was in this second
abbrev pub is_second : Option ℕ → ℕ → Bool
is_second None second = false
is_second (Some last) second = last == second

-- something came that no line reported, and this second had no line
abbrev pub is_line_due : Told → ℕ → ℕ → Bool
is_line_due told count second = nat_lt told.count count && not (is_second told.second second)

abbrev pub due_number : Told → ℕ → ℕ → Option ℕ
due_number told count second = if is_line_due told count second then Some (count - told.count) else None

abbrev pub told_after : Told → ℕ → ℕ → Told
told_after told count second = if is_line_due told count second then record { count = count; second = Some second } else told

-- the lines that looks at a count give: the number of each, and its second. A look has the count, and its second
abbrev pub report_lines : Told → List (ℕ × ℕ) → List (ℕ × ℕ)
report_lines told [] = []
report_lines told (look ∷ looks) = cond (is_line_due told look.0 look.1) ((look.0 - told.count, look.1) ∷ report_lines (told_after told look.0 look.1) looks) (report_lines (told_after told look.0 look.1) looks)

-- the sum of their numbers
abbrev pub number_of_all : List (ℕ × ℕ) → ℕ
number_of_all [] = 0
number_of_all (line ∷ lines) = line.0 + number_of_all lines

-- what was reported after all looks
abbrev pub told_of_all : Told → List (ℕ × ℕ) → Told
told_of_all told [] = told
told_of_all told (look ∷ looks) = told_of_all (told_after told look.0 look.1) looks

-- the looks are one after another, from this second on
abbrev pub NeverFalls : ℕ → List (ℕ × ℕ) → Type 0
NeverFalls from [] = ⊤
NeverFalls from (look ∷ looks) = (from ≤ look.1) × NeverFalls look.1 looks

abbrev pub IsUpTo : Option ℕ → ℕ → Type 0
IsUpTo None second = ⊤
IsUpTo (Some last) second = last ≤ second

abbrev pub IsBefore : Option ℕ → ℕ → Type 0
IsBefore None second = ⊤
IsBefore (Some last) second = last < second

-- each line is in a later second than the one before
abbrev pub Rises : Option ℕ → List (ℕ × ℕ) → Type 0
Rises last [] = ⊤
Rises last (line ∷ lines) = IsBefore last line.1 × Rises (Some line.1) lines
