-- A text that is written piece by piece.
use Rattle.std.proofs.Common.{◌≡◌, ℕ, ◌≤◌, List, ◌++◌, length, take, Option, Result, Ok, Err, OnOk, sym, subst}
use Rattle.std.specs.Prelude.{MatchResult}
use Rattle.std.specs.Io.KnownBytes.{Appends}
use Rattle.std.proofs.KnownBytes.{Appends-trans}

-- what a writer has after a piece was written
abbrev pub HasPiece : Option (List ℕ) → Option (List ℕ) → List ℕ → Result (Unit {0}) ℕ → Type 0
HasPiece old new piece result = MatchResult result (λ _. Appends old new piece) (λ sent. (sent ≤ length piece) × Appends old new (take sent piece))

-- three pieces, of which the last one may not have been written
pub wrote_three : (r : Result (Unit {0}) ℕ) (a b c d : Option (List ℕ)) (x y z whole : List ℕ) → Appends a b x → Appends b c y → HasPiece c d z r → whole ≡ x ++ (y ++ z) → OnOk r (Appends a d whole)
wrote_three (Ok t) a b c d x y z whole p q s e = subst (Appends a d) (sym e) (Appends-trans a b d x (y ++ z) p (Appends-trans b c d y z q s))
wrote_three (Err f) a b c d x y z whole p q s e = tt
