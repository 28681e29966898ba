-- A letter under its number, and lists that begin with others.
use Rattle.std.specs.Prelude.{◌≡◌, ℕ, List, ◌++◌}

-- a number and a text: a letter under its number, or what else is said on a connection
abbrev pub Numbered : Type 0
Numbered = ℕ × List ℕ

-- the other list begins with this one
abbrev pub IsBeginningOf : {X : Type 0} → List X → List X → Type 0
IsBeginningOf {X} front all = (later : List X) × (all ≡ front ++ later)
