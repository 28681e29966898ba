-- How long texts are at most, if they are bytes. A value that has no bytes is written with 256, so its text is not.
use Rattle.std.proofs.Common.{◌≡◌, ℕ, suc, ◌+◌, ◌*◌, ◌^◌, ◌<◌, ◌≤◌, Bool, true, false, List, [], ◌∷◌, ◌++◌, length, get_or, Option, Some, None, refl, sym, ◌∙◌, ap, arith, suc-mul}
use Rattle.std.specs.Prelude.{◌&&◌, flat_map, nat_lt, nat_eq}
use Rattle.std.specs.Int.{Width, w8, w16, w32, w64, byte_len, to_be_bytes}
use Rattle.std.specs.List.{list_all}
use Rattle.std.proofs.lemmas.Bool.{eqb-true, lt-ltb}
use Rattle.std.proofs.lemmas.List.{length-append}
use Rattle.std.proofs.lemmas.List.Concat.{flat_map-cons}
use Rattle.std.proofs.lemmas.List.Folds.{list_all-append}
use Rattle.std.proofs.lemmas.Nat.{mul-le}
use Rattle.wire.specs.Number.{only_if, num, fixed, is_byte}
use Rattle.wire.specs.Field.{option_text, list_text}
use Rattle.wire.specs.FrontLaws.{both_true}
use Rattle.wire.specs.NumberLaws.{IsWide, wide8, wide16, wide32, wide64, num-is}
use Rattle.letters.specs.Laws.{IsOfBytes}

-- what is written by bytes has at most so many
pub record HasAtMost {X : Type 0} (encoding : X → List ℕ) (most : ℕ) : Type 0 where
  pub short : (x : X) → IsOfBytes (encoding x) → length (encoding x) ≤ most

-- both parts of bytes are bytes
pub both_bytes : (front rest : List ℕ) → IsOfBytes (front ++ rest) → IsOfBytes front × IsOfBytes rest
both_bytes front rest h = both_true (list_all is_byte front) (list_all is_byte rest) (sym (list_all-append is_byte front rest) ∙ h)

-- what is behind a mark is bytes
pub bytes_behind : (mark : ℕ) (rest : List ℕ) → IsOfBytes (mark ∷ rest) → IsOfBytes rest
bytes_behind mark rest h = (both_true (is_byte mark) (list_all is_byte rest) h).1

pub list_of_bytes : (text : List ℕ) → ((i : ℕ) → get_or text i 0 < 256) → IsOfBytes text
list_of_bytes [] h = refl
list_of_bytes (x ∷ xs) h = rw (lt-ltb _ _ (h 0), list_of_bytes xs (λ i. h (suc i))) refl

-- a value that is written by bytes has such
pub has_bytes : (has : Bool) (text value : List ℕ) → IsOfBytes (only_if has text value) → has ≡ true
has_bytes true text value h = refl
has_bytes false text value h = absurd (cc h)

pub num_short : (w : Width) → IsWide w → HasAtMost (num w) (byte_len w)
unfolding num
num_short w wide = record {
  short = λ n h.
      let has = has_bytes (nat_lt n (256 ^ byte_len w)) (to_be_bytes w n) (n ∷ []) h in
      rw has (omega (arith, wide.len n));
}

pub u8_short : HasAtMost (num w8) 1
u8_short = num_short w8 wide8

pub u16_short : HasAtMost (num w16) 2
u16_short = num_short w16 wide16

pub u32_short : HasAtMost (num w32) 4
u32_short = num_short w32 wide32

pub u64_short : HasAtMost (num w64) 8
u64_short = num_short w64 wide64

-- a count that has a field takes four bytes
pub count_long : (n : ℕ) → n < 2 ^ 32 → length (num w32 n) ≡ 4
count_long n small = ap length (num-is w32 n (omega (arith, small))) ∙ wide32.len n

pub fixed_short : (size : ℕ) → HasAtMost (fixed size) size
unfolding fixed
fixed_short size = record {
  short = λ text h.
      let has = has_bytes (nat_eq (length text) size && list_all is_byte text) text (length text ∷ text) h in
      let len = eqb-true _ _ (both_true (nat_eq (length text) size) (list_all is_byte text) has).0 in
      rw has (omega (arith, len));
}

-- one field after another
pub followed_short : {X Y : Type 0} {first : X → List ℕ} {second : Y → List ℕ} {a b : ℕ} → HasAtMost first a → HasAtMost second b → HasAtMost {X = X × Y} (λ p. first p.0 ++ second p.1) (a + b)
followed_short {first = first} {second = second} one two = record {
  short = λ p h.
      let parts = both_bytes (first p.0) (second p.1) h in
      omega (arith, one.short p.0 parts.0, two.short p.1 parts.1, length-append (first p.0) (second p.1));
}

pub option_short : {X : Type 0} {encoding : X → List ℕ} {most : ℕ} → HasAtMost encoding most → HasAtMost (option_text encoding) (1 + most)
option_short {X} {encoding} {most} short = record { short = by }
  where
    by : (o : Option X) → IsOfBytes (option_text encoding o) → length (option_text encoding o) ≤ 1 + most
    by None h = omega arith
    by (Some x) h = omega (arith, short.short x (bytes_behind 1 (encoding x) h))

values_short : {X : Type 0} {encoding : X → List ℕ} {most : ℕ} → HasAtMost encoding most → (xs : List X) → IsOfBytes (flat_map encoding xs) → length (flat_map encoding xs) ≤ length xs * most
values_short short [] h = omega arith
values_short {encoding = encoding} {most = most} short (x ∷ xs) h =
    let both = both_bytes (encoding x) (flat_map encoding xs) (ap (list_all is_byte) (sym (flat_map-cons encoding x xs)) ∙ h) in
    let parts : length (flat_map encoding (x ∷ xs)) ≡ length (encoding x) + length (flat_map encoding xs) = ap length (flat_map-cons encoding x xs) ∙ length-append (encoding x) (flat_map encoding xs) in
    let more : suc (length xs) * most ≡ length xs * most + most = suc-mul (length xs) most in
    omega (arith, parts, more, short.short x both.0, values_short short xs both.1)

-- a list of at most so many values
pub list_short : {X : Type 0} {encoding : X → List ℕ} {most : ℕ} → HasAtMost encoding most → (count : ℕ) (xs : List X) → length xs ≤ count → IsOfBytes (list_text encoding xs) → length (list_text encoding xs) ≤ 4 + count * most
list_short {encoding = encoding} {most = most} short count xs few h =
    let both = both_bytes (num w32 (length xs)) (flat_map encoding xs) h in
    omega (arith, u32_short.short (length xs) both.0, values_short short xs both.1, mul-le (length xs) most count most few (omega arith), length-append (num w32 (length xs)) (flat_map encoding xs))
