-- The bucket of a time.
use Rattle.std.specs.Prelude.{ℕ, length, take_while, nat_lt}
use Rattle.figures.specs.declared.histogram.TheConstants.{BOUNDS}

-- how many bounds are below it: the first bucket whose bound is not below it
abbrev pub bucket_of : ℕ → ℕ
bucket_of micros = length (take_while (λ bound. nat_lt bound micros) BOUNDS)
