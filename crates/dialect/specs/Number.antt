-- The numbers of the dialect. A number on a line has more bits than what is kept of it.
use Rattle.std.specs.Prelude.{ℕ, ◌+◌, ◌-◌, ◌%◌, ◌^◌, List, [], ◌∷◌, ◌==◌, nat_lt, nat_le, if◌then◌else◌, ℤ, pos, neg_ℤ, Option, None}
use Rattle.std.specs.Option.{option_map}
use Rattle.proto.specs.Number.{number_below}

-- a number below 2^64, which may have a plus in front
abbrev pub unsigned_of : List ℕ → Option ℕ
unsigned_of [] = None
unsigned_of (c ∷ cs) = if c == 43 then number_below (2 ^ 64) cs else number_below (2 ^ 64) (c ∷ cs)

-- the lower 32 bits of such a number
abbrev pub flags_of : List ℕ → Option ℕ
flags_of word = option_map (λ n. n % 2 ^ 32) (unsigned_of word)

-- the lower 32 bits of a number, of which the highest is a sign
abbrev pub wrapped : ℕ → ℤ
wrapped n = if nat_lt (n % 2 ^ 32) (2 ^ 31) then pos (n % 2 ^ 32) else neg_ℤ (pos (2 ^ 32 - n % 2 ^ 32))

-- the same, of the negative of a number
abbrev pub wrapped_minus : ℕ → ℤ
wrapped_minus n = if nat_le (n % 2 ^ 32) (2 ^ 31) then neg_ℤ (pos (n % 2 ^ 32)) else pos (2 ^ 32 - n % 2 ^ 32)

-- a number of 64 bits with or without a sign, of which the lower 32 bits count, with a sign
abbrev pub exptime_of : List ℕ → Option ℤ
exptime_of [] = None
exptime_of (c ∷ cs) =
    if c == 45 then option_map wrapped_minus (number_below (2 ^ 63 + 1) cs)
    else if c == 43 then option_map wrapped (number_below (2 ^ 63) cs)
    else option_map wrapped (number_below (2 ^ 63) (c ∷ cs))

-- the size of a block: below 2^31 - 2, and it may have a plus in front
abbrev pub block_size_of : List ℕ → Option ℕ
block_size_of [] = None
block_size_of (c ∷ cs) = if c == 43 then number_below (2 ^ 31 - 2) cs else number_below (2 ^ 31 - 2) (c ∷ cs)
