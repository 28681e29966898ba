-- Lists whose length has limits.
use Rattle.std.specs.Prelude.{ℕ, ◌≤◌, List, length}

pub record IsWithin {X : Type 0} (least most : ℕ) (xs : List X) : Type 0 where
  pub enough : least ≤ length xs
  pub few : length xs ≤ most
