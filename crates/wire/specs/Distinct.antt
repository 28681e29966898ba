-- Texts that digests tell apart.
use Rattle.std.specs.Prelude.{◌≡◌, ℕ, List}
use Rattle.sha2.specs.Sha256.{sha256}

-- two of these texts that have one digest are one text
abbrev pub Distinct : (List ℕ → Type 0) → Type 0
Distinct among = (a b : List ℕ) → among a → among b → sha256 a ≡ sha256 b → a ≡ b
