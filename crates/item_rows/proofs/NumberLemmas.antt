-- The first bits of the path of a key make the last part of its row number.
use Rattle.std.proofs.Common.{◌≡◌, ℕ, zero, suc, ◌+◌, ◌*◌, ◌/◌, ◌%◌, ◌^◌, ◌<◌, Bool, cond, List, [], ◌∷◌, ◌++◌, length, take, refl, sym, ap, ◌∙◌, subst, arith}
use Rattle.std.specs.Prelude.{slice_index, nat_eq, bit_and}
use Rattle.std.specs.Int.{w32, w64, to_be_bytes, from_be_bytes}
use Rattle.std.proofs.lemmas.Nat.{and_mask}
use Rattle.sha2.specs.Sha256.{sha256, digest_bytes}
use Rattle.sha2.proofs.Facts256.{length-sha256}
use Rattle.merkle.specs.KeyPath.{path, path_bit}
use Rattle.item_rows.proofs.OrderLemmas.{bits_behind}

low : (y : ℕ) → y < 2 → cond (nat_eq y 1) 1 0 ≡ y
low zero h = refl
low (suc zero) h = refl
low (suc (suc y)) h = absurd (omega arith)

-- the lowest bit
lowest : (x : ℕ) → cond (nat_eq (bit_and x 1) 1) 1 0 ≡ x % 2
lowest x = ap (λ y. cond (nat_eq y 1) 1 0) (and_mask x 1) ∙ low (x % 2) (omega arith)

seven : (a b c d e f g h i : ℕ) → b < 256 → c ≡ b / 128 % 2 → d ≡ b / 64 % 2 → e ≡ b / 32 % 2 → f ≡ b / 16 % 2 → g ≡ b / 8 % 2 → h ≡ b / 4 % 2 → i ≡ b / 2 % 2
    → 2 * (2 * (2 * (2 * (2 * (2 * (2 * a + c) + d) + e) + f) + g) + h) + i ≡ 128 * a + b / 2
seven a b c d e f g h i lt pc pd pe pf pg ph pi =
    let s1 : 2 * a + c ≡ 2 * a + b / 128 = omega arith in
    let s2 : 2 * (2 * a + c) + d ≡ 4 * a + b / 64 = omega (arith, s1, pd) in
    let s3 : 2 * (2 * (2 * a + c) + d) + e ≡ 8 * a + b / 32 = omega (arith, s2, pe) in
    let s4 : 2 * (2 * (2 * (2 * a + c) + d) + e) + f ≡ 16 * a + b / 16 = omega (arith, s3, pf) in
    let s5 : 2 * (2 * (2 * (2 * (2 * a + c) + d) + e) + f) + g ≡ 32 * a + b / 8 = omega (arith, s4, pg) in
    let s6 : 2 * (2 * (2 * (2 * (2 * (2 * a + c) + d) + e) + f) + g) + h ≡ 64 * a + b / 4 = omega (arith, s5, ph) in
    omega (arith, s6, pi)

eight : (a b c d e f g h i j : ℕ) → b < 256 → c ≡ b / 128 % 2 → d ≡ b / 64 % 2 → e ≡ b / 32 % 2 → f ≡ b / 16 % 2 → g ≡ b / 8 % 2 → h ≡ b / 4 % 2 → i ≡ b / 2 % 2 → j ≡ b / 1 % 2
    → 2 * (2 * (2 * (2 * (2 * (2 * (2 * (2 * a + c) + d) + e) + f) + g) + h) + i) + j ≡ 256 * a + b
eight a b c d e f g h i j lt pc pd pe pf pg ph pi pj =
    let s7 = seven a b c d e f g h i lt pc pd pe pf pg ph pi in
    omega (arith, s7, pj)

module _ {K : Type 0} (bit : K → ℕ → Bool) (k : K) where
  -- the number behind which a byte is
  byte : (n from a b : ℕ) → b < 256 → cond (bit k from) 1 0 ≡ b / 128 % 2 → cond (bit k (suc from)) 1 0 ≡ b / 64 % 2 → cond (bit k (suc (suc from))) 1 0 ≡ b / 32 % 2 → cond (bit k (suc (suc (suc from)))) 1 0 ≡ b / 16 % 2
      → cond (bit k (suc (suc (suc (suc from))))) 1 0 ≡ b / 8 % 2 → cond (bit k (suc (suc (suc (suc (suc from)))))) 1 0 ≡ b / 4 % 2 → cond (bit k (suc (suc (suc (suc (suc (suc from))))))) 1 0 ≡ b / 2 % 2 → cond (bit k (suc (suc (suc (suc (suc (suc (suc from)))))))) 1 0 ≡ b / 1 % 2
      → bits_behind bit (suc (suc (suc (suc (suc (suc (suc (suc n)))))))) from a k ≡ bits_behind bit n (suc (suc (suc (suc (suc (suc (suc (suc from)))))))) (256 * a + b) k
  byte n from a b lt pc pd pe pf pg ph pi pj =
      ap (λ x. bits_behind bit n (suc (suc (suc (suc (suc (suc (suc (suc from)))))))) x k) (eight a b _ _ _ _ _ _ _ _ lt pc pd pe pf pg ph pi pj)

-- numbers below 256
abbrev AreBytes : List ℕ → Type 0
AreBytes [] = Unit {0}
AreBytes (x ∷ xs) = (x < 256) × AreBytes xs

bytes_append : (xs ys : List ℕ) → AreBytes xs → AreBytes ys → AreBytes (xs ++ ys)
bytes_append [] ys p q = q
bytes_append (x ∷ xs) ys p q = (p.0, bytes_append xs ys p.1 q)

bytes_word : (x : ℕ) → AreBytes (to_be_bytes w32 x)
bytes_word x = (omega arith, (omega arith, (omega arith, (omega arith, tt))))

bytes_digest : (h : List ℕ) (n : ℕ) → AreBytes (digest_bytes h n)
unfolding digest_bytes
bytes_digest h zero = tt
bytes_digest h (suc n) = bytes_append (digest_bytes h n) (to_be_bytes w32 (slice_index h n)) (bytes_digest h n) (bytes_word (slice_index h n))

bytes_sha : (m : List ℕ) → AreBytes (sha256 m)
unfolding sha256
bytes_sha m = bytes_digest _ 8

byte_index : (xs : List ℕ) (i : ℕ) → AreBytes xs → slice_index xs i < 256
byte_index [] i p = omega arith
byte_index (x ∷ xs) zero p = p.0
byte_index (x ∷ xs) (suc i) p = byte_index xs i p.1

index_left : (xs ys : List ℕ) (i : ℕ) → i < length xs → slice_index (xs ++ ys) i ≡ slice_index xs i
index_left [] ys i h = absurd (omega arith)
index_left (x ∷ xs) ys zero h = refl
index_left (x ∷ xs) ys (suc i) h = index_left xs ys i (omega arith)

index_take : (n : ℕ) (xs : List ℕ) (i : ℕ) → i < n → slice_index (take n xs) i ≡ slice_index xs i
index_take zero xs i h = absurd (omega arith)
index_take (suc n) [] i h = refl
index_take (suc n) (x ∷ xs) zero h = refl
index_take (suc n) (x ∷ xs) (suc i) h = index_take n xs i (omega arith)

abbrev at : List ℕ → ℕ → ℕ
at key i = slice_index (path key) i

is_byte : (key : List ℕ) (i : ℕ) → i < 32 → at key i < 256
is_byte key i h =
    let lt : i < length (sha256 key) = omega (arith, h, length-sha256 key) in
    subst (λ n. n < 256) (sym (index_left (sha256 key) (length key ∷ key) i lt)) (byte_index (sha256 key) i (bytes_sha key))

front : (key : List ℕ) (i : ℕ) → i < 8 → slice_index (take 8 (sha256 key)) i ≡ at key i
front key i h =
    let lt : i < length (sha256 key) = omega (arith, h, length-sha256 key) in
    index_take 8 (sha256 key) i h ∙ sym (index_left (sha256 key) (length key ∷ key) i lt)

-- eight bytes, but for the last nine bits
whole : (a b c d e f g h : ℕ) → g < 256 → h < 256 → ((((((((a * 72057594037927936) + b * 281474976710656) + c * 1099511627776) + d * 4294967296) + e * 16777216) + f * 65536) + g * 256) + h) / 512 ≡ 128 * (256 * (256 * (256 * (256 * (256 * (256 * 0 + a) + b) + c) + d) + e) + f) + g / 2
whole a b c d e f g h p q =
    let split : (((((((a * 72057594037927936) + b * 281474976710656) + c * 1099511627776) + d * 4294967296) + e * 16777216) + f * 65536) + g * 256) + h ≡ 512 * (128 * (256 * (256 * (256 * (256 * (256 * (256 * 0 + a) + b) + c) + d) + e) + f) + g / 2) + (256 * (g % 2) + h) = omega arith in
    omega (arith, split)

module _ (key : List ℕ) where
  byte_0 : (a : ℕ) → bits_behind path_bit 55 0 a key ≡ bits_behind path_bit 47 8 (256 * a + at key 0) key
  byte_0 a = byte path_bit key 47 0 a (at key 0) (is_byte key 0 (omega arith)) (lowest (at key 0 / 128)) (lowest (at key 0 / 64)) (lowest (at key 0 / 32)) (lowest (at key 0 / 16)) (lowest (at key 0 / 8)) (lowest (at key 0 / 4)) (lowest (at key 0 / 2)) (lowest (at key 0 / 1))

  byte_1 : (a : ℕ) → bits_behind path_bit 47 8 a key ≡ bits_behind path_bit 39 16 (256 * a + at key 1) key
  byte_1 a = byte path_bit key 39 8 a (at key 1) (is_byte key 1 (omega arith)) (lowest (at key 1 / 128)) (lowest (at key 1 / 64)) (lowest (at key 1 / 32)) (lowest (at key 1 / 16)) (lowest (at key 1 / 8)) (lowest (at key 1 / 4)) (lowest (at key 1 / 2)) (lowest (at key 1 / 1))

  byte_2 : (a : ℕ) → bits_behind path_bit 39 16 a key ≡ bits_behind path_bit 31 24 (256 * a + at key 2) key
  byte_2 a = byte path_bit key 31 16 a (at key 2) (is_byte key 2 (omega arith)) (lowest (at key 2 / 128)) (lowest (at key 2 / 64)) (lowest (at key 2 / 32)) (lowest (at key 2 / 16)) (lowest (at key 2 / 8)) (lowest (at key 2 / 4)) (lowest (at key 2 / 2)) (lowest (at key 2 / 1))

  byte_3 : (a : ℕ) → bits_behind path_bit 31 24 a key ≡ bits_behind path_bit 23 32 (256 * a + at key 3) key
  byte_3 a = byte path_bit key 23 24 a (at key 3) (is_byte key 3 (omega arith)) (lowest (at key 3 / 128)) (lowest (at key 3 / 64)) (lowest (at key 3 / 32)) (lowest (at key 3 / 16)) (lowest (at key 3 / 8)) (lowest (at key 3 / 4)) (lowest (at key 3 / 2)) (lowest (at key 3 / 1))

  byte_4 : (a : ℕ) → bits_behind path_bit 23 32 a key ≡ bits_behind path_bit 15 40 (256 * a + at key 4) key
  byte_4 a = byte path_bit key 15 32 a (at key 4) (is_byte key 4 (omega arith)) (lowest (at key 4 / 128)) (lowest (at key 4 / 64)) (lowest (at key 4 / 32)) (lowest (at key 4 / 16)) (lowest (at key 4 / 8)) (lowest (at key 4 / 4)) (lowest (at key 4 / 2)) (lowest (at key 4 / 1))

  byte_5 : (a : ℕ) → bits_behind path_bit 15 40 a key ≡ bits_behind path_bit 7 48 (256 * a + at key 5) key
  byte_5 a = byte path_bit key 7 40 a (at key 5) (is_byte key 5 (omega arith)) (lowest (at key 5 / 128)) (lowest (at key 5 / 64)) (lowest (at key 5 / 32)) (lowest (at key 5 / 16)) (lowest (at key 5 / 8)) (lowest (at key 5 / 4)) (lowest (at key 5 / 2)) (lowest (at key 5 / 1))

  last : (a : ℕ) → bits_behind path_bit 7 48 a key ≡ 128 * a + at key 6 / 2
  last a = seven a (at key 6) _ _ _ _ _ _ _ (is_byte key 6 (omega arith)) (lowest (at key 6 / 128)) (lowest (at key 6 / 64)) (lowest (at key 6 / 32)) (lowest (at key 6 / 16)) (lowest (at key 6 / 8)) (lowest (at key 6 / 4)) (lowest (at key 6 / 2))

  value : from_be_bytes w64 (take 8 (sha256 key)) / 2 ^ 9 ≡ 128 * (256 * (256 * (256 * (256 * (256 * (256 * 0 + at key 0) + at key 1) + at key 2) + at key 3) + at key 4) + at key 5) + at key 6 / 2
  value =
      (λ j. ((((((((front key 0 (omega arith) j * 72057594037927936) + front key 1 (omega arith) j * 281474976710656) + front key 2 (omega arith) j * 1099511627776) + front key 3 (omega arith) j * 4294967296) + front key 4 (omega arith) j * 16777216) + front key 5 (omega arith) j * 65536) + front key 6 (omega arith) j * 256) + front key 7 (omega arith) j) / 512)
      ∙ (whole (at key 0) (at key 1) (at key 2) (at key 3) (at key 4) (at key 5) (at key 6) (at key 7) (is_byte key 6 (omega arith)) (is_byte key 7 (omega arith)))

  -- the last part of the row number of a key
  pub first_number : bits_behind path_bit 55 0 0 key ≡ from_be_bytes w64 (take 8 (sha256 key)) / 2 ^ 9
  first_number = byte_0 0 ∙ byte_1 _ ∙ byte_2 _ ∙ byte_3 _ ∙ byte_4 _ ∙ byte_5 _ ∙ last _ ∙ sym value

  -- it has 55 bits
  pub first_small : from_be_bytes w64 (take 8 (sha256 key)) / 2 ^ 9 < 36028797018963968
  first_small =
      subst (λ n. n < 36028797018963968) (sym value)
      (omega (arith, is_byte key 0 (omega arith), is_byte key 1 (omega arith), is_byte key 2 (omega arith), is_byte key 3 (omega arith), is_byte key 4 (omega arith), is_byte key 5 (omega arith), is_byte key 6 (omega arith)))
