-- Paths tell keys apart.
use Rattle.std.proofs.Common.{◌≡◌, ℕ, zero, suc, ◌+◌, ◌*◌, ◌<◌, ◌≤◌, ◌/◌, ◌%◌, true, List, [], ◌∷◌, ◌++◌, length, refl, sym, ap, ◌∙◌, arith}
use Rattle.std.proofs.lemmas.Nat.{and_mask}
use Rattle.std.proofs.lemmas.Bool.{and_parts, leb-true}
use Rattle.std.proofs.lemmas.Bool.Decides.{nat_tests}
use Rattle.std.specs.List.{list_all}
use Rattle.proto.specs.Key.{IsKey, is_key_byte}
use Rattle.std.specs.Prelude.{slice_index, nat_eq, bit_and}
use Rattle.sha2.specs.Sha256.{sha256}
use Rattle.sha2.proofs.Facts256.{length-sha256}
use Rattle.merkle.specs.KeyPath.{IsShort, path, bit_of, path_bit, path_bits}

index_right : (xs ys : List ℕ) (i : ℕ) → slice_index (xs ++ ys) (length xs + i) ≡ slice_index ys i
index_right [] ys i = let e : 0 + i ≡ i = omega arith in ap (slice_index ys) e
index_right (x ∷ xs) ys i = let e : length (x ∷ xs) + i ≡ suc (length xs + i) = omega arith in ap (slice_index (x ∷ (xs ++ ys))) e ∙ index_right xs ys i

after_digest : (key : List ℕ) (i : ℕ) → slice_index (path key) (32 + i) ≡ slice_index (length key ∷ key) i
after_digest key i = ap (λ n. slice_index (path key) (n + i)) (sym (length-sha256 key)) ∙ index_right (sha256 key) (length key ∷ key) i

-- lists of one length that have the same numbers
same_list : (xs ys : List ℕ) → length xs ≡ length ys → ((i : ℕ) → i < length xs → slice_index xs i ≡ slice_index ys i) → xs ≡ ys
same_list [] [] l h = refl
same_list [] (y ∷ ys) l h = absurd (omega arith)
same_list (x ∷ xs) [] l h = absurd (omega arith)
same_list (x ∷ xs) (y ∷ ys) l h =
    let first : x ≡ y = h 0 (omega arith) in
    let rest = same_list xs ys (omega arith) (λ i k. h (suc i) (omega arith)) in
    λ i. first i ∷ rest i

same_bit : (x y : ℕ) → x < 2 → y < 2 → nat_eq x 1 ≡ nat_eq y 1 → x ≡ y
same_bit zero zero p q e = refl
same_bit zero (suc zero) p q e = cc
same_bit zero (suc (suc y)) p q e = absurd (omega arith)
same_bit (suc zero) zero p q e = cc
same_bit (suc zero) (suc zero) p q e = refl
same_bit (suc zero) (suc (suc y)) p q e = absurd (omega arith)
same_bit (suc (suc x)) y p q e = absurd (omega arith)

-- a number is even or odd as its lowest bit says
parity : (n m : ℕ) → nat_eq (bit_and n 1) 1 ≡ nat_eq (bit_and m 1) 1 → n % 2 ≡ m % 2
parity n m e = same_bit (n % 2) (m % 2) (omega arith) (omega arith) (ap (λ x. nat_eq x 1) (sym (and_mask n 1)) ∙ (e ∙ ap (λ x. nat_eq x 1) (and_mask m 1)))

halves : (n m : ℕ) → n / 2 ≡ m / 2 → n % 2 ≡ m % 2 → n ≡ m
halves n m p q = omega arith

-- bytes of the same bits
same_byte : (x y : ℕ) → x < 256 → y < 256 → ((t : ℕ) → t < 8 → bit_of x t ≡ bit_of y t) → x ≡ y
same_byte x y p q h =
    let s7 : x / 128 ≡ y / 128 = halves (x / 128) (y / 128) (omega arith) (parity (x / 128) (y / 128) (h 0 (omega arith))) in
    let s6 : x / 64 ≡ y / 64 = halves (x / 64) (y / 64) (omega arith) (parity (x / 64) (y / 64) (h 1 (omega arith))) in
    let s5 : x / 32 ≡ y / 32 = halves (x / 32) (y / 32) (omega arith) (parity (x / 32) (y / 32) (h 2 (omega arith))) in
    let s4 : x / 16 ≡ y / 16 = halves (x / 16) (y / 16) (omega arith) (parity (x / 16) (y / 16) (h 3 (omega arith))) in
    let s3 : x / 8 ≡ y / 8 = halves (x / 8) (y / 8) (omega arith) (parity (x / 8) (y / 8) (h 4 (omega arith))) in
    let s2 : x / 4 ≡ y / 4 = halves (x / 4) (y / 4) (omega arith) (parity (x / 4) (y / 4) (h 5 (omega arith))) in
    let s1 : x / 2 ≡ y / 2 = halves (x / 2) (y / 2) (omega arith) (parity (x / 2) (y / 2) (h 6 (omega arith))) in
    let s0 : x / 1 ≡ y / 1 = halves (x / 1) (y / 1) (omega arith) (parity (x / 1) (y / 1) (h 7 (omega arith))) in
    omega arith

is_byte : (key : List ℕ) → IsShort key → (i : ℕ) → slice_index (length key ∷ key) i < 256
is_byte key is zero = (let h : length key ≤ 250 = is.short in omega arith)
is_byte key is (suc i) = is.bytes i

-- what follows the digests
same_rest : (a b : List ℕ) → IsShort a → IsShort b → ((i : ℕ) → i < path_bits → path_bit a i ≡ path_bit b i) → (i : ℕ) → i < 251 → slice_index (length a ∷ a) i ≡ slice_index (length b ∷ b) i
same_rest a b p q h i k =
    same_byte (slice_index (length a ∷ a) i) (slice_index (length b ∷ b) i) (is_byte a p i) (is_byte b q i) (λ t l.
    let place : ℕ = 8 * (32 + i) + t in
    let byte : place / 8 ≡ 32 + i = omega arith in
    let bit : place % 8 ≡ t = omega arith in
    let at : (key : List ℕ) → path_bit key place ≡ bit_of (slice_index (length key ∷ key) i) t =
    λ key. (λ j. bit_of (slice_index (path key) (byte j)) (bit j)) ∙ ap (λ x. bit_of x t) (after_digest key i) in
    sym (at a) ∙ (h place (omega arith) ∙ at b))

pub paths_apart : (a b : List ℕ) → IsShort a → IsShort b → ((i : ℕ) → i < path_bits → path_bit a i ≡ path_bit b i) → a ≡ b
paths_apart a b p q h =
    let short : length a ≤ 250 = p.short in
    same_list a b (same_rest a b p q h 0 (omega arith)) (λ i k. same_rest a b p q h (suc i) (omega arith))

key_byte : (b : ℕ) → is_key_byte b ≡ true → b < 256
key_byte b h = grind (arith, nat_tests)

key_bytes : (key : List ℕ) → list_all is_key_byte key ≡ true → (i : ℕ) → slice_index key i < 256
key_bytes [] h i = omega arith
key_bytes (b ∷ bs) h zero = key_byte b (and_parts _ _ h).0
key_bytes (b ∷ bs) h (suc i) = key_bytes bs (and_parts _ _ h).1 i

key_is_short : (key : List ℕ) → IsKey key → IsShort key
key_is_short key h =
    let parts = and_parts _ _ h in
    record { short = leb-true (length key) 250 (and_parts _ _ parts.0).1; bytes = key_bytes key parts.1 }

pub keys_apart : (a b : List ℕ) → IsKey a → IsKey b → ((i : ℕ) → i < path_bits → path_bit a i ≡ path_bit b i) → a ≡ b
keys_apart a b p q h = paths_apart a b (key_is_short a p) (key_is_short b q) h
