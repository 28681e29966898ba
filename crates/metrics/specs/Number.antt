-- Numbers as text.
use Rattle.std.specs.Prelude.{ℕ, List, [], ◌∷◌, ◌++◌, ◌+◌, ◌/◌, ◌%◌, codes, decimal}

-- the last six digits of a number, the zeros before it among them
abbrev pub six_digits : ℕ → List ℕ
six_digits n = (48 + n / 100000 % 10) ∷ (48 + n / 10000 % 10) ∷ (48 + n / 1000 % 10) ∷ (48 + n / 100 % 10) ∷ (48 + n / 10 % 10) ∷ (48 + n % 10) ∷ []

-- so many microseconds in seconds
abbrev pub seconds_text : ℕ → List ℕ
seconds_text micros = decimal (micros / 1000000) ++ codes "." ++ six_digits (micros % 1000000)
