-- What the next batch of an executor keeps to.
use Rattle.std.proofs.Common.{◌≡◌, ℕ, ◌+◌, ◌≤◌, List, length, true, arith}
use Rattle.std.specs.Prelude.{take, nat_le}
use Rattle.std.proofs.lemmas.Bool.{leb-true}
use Rattle.std.proofs.lemmas.List.{length-take}

pub from_one : (n : ℕ) → 1 ≤ n + 1
from_one n = omega arith

pub within : (n most : ℕ) → nat_le n most ≡ true → n ≤ most
within n most e = leb-true n most e

pub few_taken : {X : Type 0} (most : ℕ) (xs : List X) → length (take most xs) ≤ most
few_taken most xs = rw length-take (omega arith)
