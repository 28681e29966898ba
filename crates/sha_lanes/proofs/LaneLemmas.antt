-- What vectors hold lane by lane.
use Rattle.std.proofs.Common.{◌≡◌, ℕ, zero, suc, ◌<◌, ◌-◌, ◌*◌, ◌/◌, ◌%◌, ◌^◌, List, [], ◌∷◌, length, map, slice_index, slice_index_or, slice_set, bit_and, bit_or, bit_xor, arith, refl}
use Rattle.std.proofs.lemmas.List.{get_or-map, length-map, map-set}
use Rattle.std.specs.Int.{w32, bit_not, rotate_right}
use Rattle.std.specs.Simd.Lanes.{zip2}
use Rattle.sha2.specs.Sha256.{ch, maj}
use Rattle.sha_lanes.specs.Lanes.{lane_at, state_in, text_of, words_of}
use Rattle.sha_lanes.proofs.MajFact.{maj_short}

-- what holds of each of the four lanes
pub below_four : (P : ℕ → Type 0) → P 0 → P 1 → P 2 → P 3 → (j : ℕ) → j < 4 → P j
below_four P p0 p1 p2 p3 zero h = p0
below_four P p0 p1 p2 p3 (suc zero) h = p1
below_four P p0 p1 p2 p3 (suc (suc zero)) h = p2
below_four P p0 p1 p2 p3 (suc (suc (suc zero))) h = p3
below_four P p0 p1 p2 p3 (suc (suc (suc (suc n)))) h = absurd (omega arith)

-- what holds of each list of four elements
four_lanes : (P : List ℕ → Type 0) → ((a b c d : ℕ) → P (a ∷ b ∷ c ∷ d ∷ [])) → (xs : List ℕ) → length xs ≡ 4 → P xs
four_lanes P p (a ∷ b ∷ c ∷ d ∷ []) h = p a b c d
four_lanes P p [] h = absurd (omega arith)
four_lanes P p (a ∷ []) h = absurd (omega arith)
four_lanes P p (a ∷ b ∷ []) h = absurd (omega arith)
four_lanes P p (a ∷ b ∷ c ∷ []) h = absurd (omega arith)
four_lanes P p (a ∷ b ∷ c ∷ d ∷ e ∷ xs) h = absurd (omega arith)

-- a shift of each lane
abbrev Shifts : ℕ → List ℕ → Type 0
Shifts k x = (j : ℕ) → j < 4
    → slice_index (zip2 (λ x n. x / 2 ^ n) x (k ∷ k ∷ k ∷ k ∷ [])) j ≡ slice_index x j / 2 ^ k

pub shifts_each : (k : ℕ) → (x : List ℕ) → length x ≡ 4 → Shifts k x
shifts_each k = four_lanes (Shifts k) (λ x0 x1 x2 x3. below_four _ refl refl refl refl)

-- two shifts of each lane and an or are a rotation
abbrev Rotates : ℕ → List ℕ → Type 0
Rotates k x = (j : ℕ) → j < 4
    → slice_index (zip2 bit_or
    (zip2 (λ x n. x / 2 ^ n) x (k ∷ k ∷ k ∷ k ∷ []))
    (zip2 (λ x n. x * 2 ^ n % 2 ^ 32) x ((32 - k) ∷ (32 - k) ∷ (32 - k) ∷ (32 - k) ∷ []))) j
    ≡ rotate_right w32 (slice_index x j) k

pub shifts_rotate : (k : ℕ) → 0 < k → k < 32 → (x : List ℕ) → length x ≡ 4 → Rotates k x
shifts_rotate k low high =
    let right : k % 32 ≡ k = omega arith in
    let left : (32 - k) % 32 ≡ 32 - k = omega arith in
    four_lanes (Rotates k) (λ x0 x1 x2 x3. below_four _ (rw (right, left) refl) (rw (right, left) refl) (rw (right, left) refl) (rw (right, left) refl))

-- Ch of each lane
abbrev Chooses : List ℕ → List ℕ → List ℕ → Type 0
Chooses x y z = (j : ℕ) → j < 4
    → slice_index (zip2 bit_xor (zip2 bit_and x y) (zip2 bit_and (map (bit_not w32) x) z)) j
    ≡ ch (slice_index x j) (slice_index y j) (slice_index z j)

pub chooses_each : (x : List ℕ) → length x ≡ 4 → (y : List ℕ) → length y ≡ 4 → (z : List ℕ) → length z ≡ 4 → Chooses x y z
chooses_each =
    four_lanes (λ x. (y : List ℕ) → length y ≡ 4 → (z : List ℕ) → length z ≡ 4 → Chooses x y z) (λ x0 x1 x2 x3.
    four_lanes (λ y. (z : List ℕ) → length z ≡ 4 → Chooses (x0 ∷ x1 ∷ x2 ∷ x3 ∷ []) y z) (λ y0 y1 y2 y3.
    four_lanes (λ z. Chooses (x0 ∷ x1 ∷ x2 ∷ x3 ∷ []) (y0 ∷ y1 ∷ y2 ∷ y3 ∷ []) z) (λ z0 z1 z2 z3.
    below_four _ refl refl refl refl)))

-- Maj of each lane
abbrev Majority : List ℕ → List ℕ → List ℕ → Type 0
Majority x y z = (j : ℕ) → j < 4
    → slice_index (zip2 bit_xor y (zip2 bit_and (zip2 bit_xor x y) (zip2 bit_xor y z))) j
    ≡ maj (slice_index x j) (slice_index y j) (slice_index z j)

pub majority_each : (x : List ℕ) → length x ≡ 4 → (y : List ℕ) → length y ≡ 4 → (z : List ℕ) → length z ≡ 4 → Majority x y z
majority_each =
    four_lanes (λ x. (y : List ℕ) → length y ≡ 4 → (z : List ℕ) → length z ≡ 4 → Majority x y z) (λ x0 x1 x2 x3.
    four_lanes (λ y. (z : List ℕ) → length z ≡ 4 → Majority (x0 ∷ x1 ∷ x2 ∷ x3 ∷ []) y z) (λ y0 y1 y2 y3.
    four_lanes (λ z. Majority (x0 ∷ x1 ∷ x2 ∷ x3 ∷ []) (y0 ∷ y1 ∷ y2 ∷ y3 ∷ []) z) (λ z0 z1 z2 z3.
    below_four _ (maj_short x0 y0 z0) (maj_short x1 y1 z1) (maj_short x2 y2 z2) (maj_short x3 y3 z3))))

-- word i of text j is lane j of vector i
pub slice_index-words : (j : ℕ) (w : List (List ℕ)) (i : ℕ) → i < length w → slice_index (words_of j w) i ≡ slice_index (slice_index_or w i []) j
slice_index-words j w i lt = get_or-map (λ v. slice_index v j) w i [] 0 lt

-- a vector put in place i puts its lane j there for text j
pub words_of-set : (j : ℕ) (w : List (List ℕ)) (i : ℕ) (v : List ℕ) → words_of j (slice_set w i v) ≡ slice_set (words_of j w) i (slice_index v j)
words_of-set j w i v = map-set (λ l. slice_index l j) w i v

-- each text has as many words as there are vectors
pub length-words_of : (j : ℕ) (w : List (List ℕ)) → length (words_of j w) ≡ length w
length-words_of j w = length-map w (λ v. slice_index v j)

-- word k of the state of text j is lane j of vector k
pub slice_index-state : (j : ℕ) (x : List (List ℕ)) (k : ℕ) → k < 8 → slice_index (state_in j x) k ≡ lane_at x k j
slice_index-state j x zero h = refl
slice_index-state j x (suc zero) h = refl
slice_index-state j x (suc (suc zero)) h = refl
slice_index-state j x (suc (suc (suc zero))) h = refl
slice_index-state j x (suc (suc (suc (suc zero)))) h = refl
slice_index-state j x (suc (suc (suc (suc (suc zero))))) h = refl
slice_index-state j x (suc (suc (suc (suc (suc (suc zero)))))) h = refl
slice_index-state j x (suc (suc (suc (suc (suc (suc (suc zero))))))) h = refl
slice_index-state j x (suc (suc (suc (suc (suc (suc (suc (suc n)))))))) h = absurd (omega arith)

-- what is made of each of four texts is made of text j
pub text_of-each : (f : List ℕ → List ℕ) (a b c d : List ℕ) (j : ℕ) → j < 4 → text_of j (f a) (f b) (f c) (f d) ≡ f (text_of j a b c d)
text_of-each f a b c d = below_four _ refl refl refl refl
