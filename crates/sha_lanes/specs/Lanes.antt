-- Four texts side by side: each word of a state or of a block is a vector, with one lane for each text.
use Rattle.std.specs.Prelude.{◌≡◌, ℕ, ◌+◌, ◌*◌, ◌/◌, ◌%◌, ◌<◌, List, [], ◌∷◌, length, map, slice_index, slice_index_or}
use Rattle.sha2.specs.Sha256.{word_at}

-- lane j of vector k
abbrev pub lane_at : List (List ℕ) → ℕ → ℕ → ℕ
lane_at x k j = slice_index (slice_index_or x k []) j

-- the state in lane j, of eight words
abbrev pub state_in : ℕ → List (List ℕ) → List ℕ
state_in j x =
    lane_at x 0 j ∷ lane_at x 1 j ∷ lane_at x 2 j ∷ lane_at x 3 j
    ∷ lane_at x 4 j ∷ lane_at x 5 j ∷ lane_at x 6 j ∷ lane_at x 7 j ∷ []

-- the words of text j
abbrev pub words_of : ℕ → List (List ℕ) → List ℕ
words_of j x = map (λ v. slice_index v j) x

-- w is the sixteen words of the block b
abbrev pub AreWords : List ℕ → List ℕ → Type 0
AreWords w b = (length w ≡ 16) × ((k : ℕ) → k < 16 → slice_index w k ≡ word_at b (4 * k))

-- text j of four
abbrev pub text_of : ℕ → List ℕ → List ℕ → List ℕ → List ℕ → List ℕ
text_of j a b c d = slice_index_or (a ∷ b ∷ c ∷ d ∷ []) j []

-- how many blocks a message of n bytes has with its padding
abbrev pub block_count : ℕ → ℕ
block_count n = n / 64 + (n % 64 + 72) / 64
