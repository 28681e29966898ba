-- Counts of 64 bits, which stay at their most.
use Rattle.std.specs.Prelude.{ℕ, ◌+◌, ◌-◌, ◌^◌, min}

abbrev pub sum_of : ℕ → ℕ → ℕ
sum_of count more = min (count + more) (2 ^ 64 - 1)

abbrev pub up : ℕ → ℕ
up count = sum_of count 1
