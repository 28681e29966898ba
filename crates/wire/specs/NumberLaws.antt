-- Numbers are encoded by their bytes, and no number is a prefix of another.
use Rattle.std.proofs.Common.{◌≡◌, ℕ, suc, ◌+◌, ◌*◌, ◌^◌, ◌<◌, ◌≤◌, Bool, true, false, List, [], ◌∷◌, ◌++◌, length, get_or, take, drop, ◌-◌, ◌/◌, ◌%◌, inl, inr, refl, sym, ◌∙◌, ap, arith, ltb, ℤ, pos, negsuc}
use Rattle.std.specs.Int.{Width, w8, w16, w32, w64, byte_len, from_be_bytes, to_be_bytes, cast_signed, cast_unsigned}
use Rattle.std.proofs.lemmas.Bool.{ltb-true, ltb-false, lt-ltb, le-ltb}
use Rattle.std.proofs.lemmas.Nat.{be_bytes_2, be_bytes_4, be_bytes_8, from_be_bytes-to_be_bytes_2, from_be_bytes-to_be_bytes_4, from_be_bytes-to_be_bytes_8}
use Rattle.std.specs.Prelude.{FitsSigned, nat_lt, nat_eq, if◌then◌else◌}
use Rattle.std.proofs.lemmas.Bool.{cases_Bool, cases_lt}
use Rattle.std.proofs.lemmas.List.{take_all, take-append-drop, length-append, length-take, get_or-take, get_or_past}
use Rattle.wire.specs.Record.{IsPrefixFree, NoPrefix}
use Rattle.wire.specs.Number.{only_if, num, num_signed, as_unsigned}
use Rattle.wire.specs.FrontLaws.{split_at, head_of, both_ways, has, lacks}

-- what std's bytes of a width keep to
pub record IsWide (w : Width) : Type 0 where
  pub len : (n : ℕ) → length (to_be_bytes w n) ≡ byte_len w
  pub back : (bytes : List ℕ) → length bytes ≡ byte_len w → ((i : ℕ) → get_or bytes i 0 < 256) → to_be_bytes w (from_be_bytes w bytes) ≡ bytes
  pub again : (n : ℕ) → n < 256 ^ byte_len w → from_be_bytes w (to_be_bytes w n) ≡ n
  pub below : (bytes : List ℕ) → ((i : ℕ) → get_or bytes i 0 < 256) → from_be_bytes w bytes < 256 ^ byte_len w
  pub first : (n : ℕ) (r : List ℕ) → head_of (to_be_bytes w n ++ r) < 256

back8 : (bytes : List ℕ) → length bytes ≡ 1 → ((i : ℕ) → get_or bytes i 0 < 256) → to_be_bytes w8 (from_be_bytes w8 bytes) ≡ bytes
back8 [] len fits = absurd (omega arith)
back8 (x ∷ []) len fits =
    let small : x < 256 = fits 0 in
    let same : from_be_bytes w8 (x ∷ []) % 256 ≡ x = omega arith in
    ap (λ (b : ℕ). b ∷ []) (omega arith)
back8 (x ∷ y ∷ ys) len fits = absurd (omega arith)

pub wide8 : IsWide w8
wide8 = record {
  len = λ n. refl;
  back = back8;
  again = λ n lt. omega arith;
  below = λ bytes fits. omega (arith, fits 0);
  first = λ n r. omega arith;
}

pub wide16 : IsWide w16
wide16 = record {
  len = λ n. refl;
  back = λ bytes len fits. be_bytes_2 bytes _ len fits refl;
  again = λ n lt. from_be_bytes-to_be_bytes_2 n (omega arith);
  below = λ bytes fits. omega (arith, fits 0, fits 1);
  first = λ n r. omega arith;
}

pub wide32 : IsWide w32
wide32 = record {
  len = λ n. refl;
  back = λ bytes len fits. be_bytes_4 bytes _ len fits refl;
  again = λ n lt. from_be_bytes-to_be_bytes_4 n (omega arith);
  below = λ bytes fits. omega (arith, fits 0, fits 1, fits 2, fits 3);
  first = λ n r. omega arith;
}

pub wide64 : IsWide w64
wide64 = record {
  len = λ n. refl;
  back = λ bytes len fits. be_bytes_8 bytes _ len fits refl;
  again = λ n lt. from_be_bytes-to_be_bytes_8 n (omega arith);
  below = λ bytes fits. omega (arith, fits 0, fits 1, fits 2, fits 3, fits 4, fits 5, fits 6, fits 7);
  first = λ n r. omega arith;
}

too_short : (w : Width) → IsWide w → (n : ℕ) (bytes rest : List ℕ) → ((i : ℕ) → get_or bytes i 0 < 256) → length bytes < byte_len w → bytes ≡ num w n ++ rest → ⊥
unfolding num
too_short w wide n bytes rest are_bytes short e =
    elim (cases_Bool (ltb n (256 ^ byte_len w))) [
      | inl inside ↦
          let same : bytes ≡ to_be_bytes w n ++ rest = e ∙ ap (λ (b : Bool). only_if b (to_be_bytes w n) (n ∷ []) ++ rest) inside in
          let len : length bytes ≡ length (to_be_bytes w n) + length rest = ap length same ∙ length-append (to_be_bytes w n) rest in
          omega (arith, wide.len n)
      | inr outside ↦
          let same : bytes ≡ 256 ∷ n ∷ rest = e ∙ ap (λ (b : Bool). only_if b (to_be_bytes w n) (n ∷ []) ++ rest) outside in
          let head : get_or bytes 0 0 ≡ 256 = ap (λ (x : List ℕ). get_or x 0 0) same in
          omega (arith, are_bytes 0)
    ]

-- a number that is at the front of bytes is one of its width
pub below_of : (w : Width) (n : ℕ) (bytes rest : List ℕ) → ((i : ℕ) → get_or bytes i 0 < 256) → bytes ≡ num w n ++ rest → n < 256 ^ byte_len w
unfolding num
below_of w n bytes rest are_bytes e =
    elim (cases_Bool (ltb n (256 ^ byte_len w))) [
      | inl inside ↦ ltb-true _ _ inside
      | inr outside ↦
          let same : bytes ≡ 256 ∷ n ∷ rest = e ∙ ap (λ (b : Bool). only_if b (to_be_bytes w n) (n ∷ []) ++ rest) outside in
          let head : get_or bytes 0 0 ≡ 256 = ap (λ (x : List ℕ). get_or x 0 0) same in
          absurd (omega (arith, are_bytes 0))
    ]

pub are_bytes-take : (n : ℕ) (bytes : List ℕ) → ((i : ℕ) → get_or bytes i 0 < 256) → (i : ℕ) → get_or (take n bytes) i 0 < 256
are_bytes-take n bytes h i =
    elim (cases_lt i n) [
      | inl lt ↦ rw (get_or-take n bytes i 0 lt) (h i)
      | inr le ↦ rw (get_or_past (take n bytes) i 0 (omega (arith, length-take n bytes))) (omega arith)
    ]

num_apart : (w : Width) → IsWide w → (n m : ℕ) (r s : List ℕ) → num w n ++ r ≡ num w m ++ s → (n ≡ m) × (r ≡ s)
unfolding num
num_apart w wide n m r s e =
    elim (both_ways (ltb n (256 ^ byte_len w)) (ltb m (256 ^ byte_len w)) (to_be_bytes w n) (to_be_bytes w m) (n ∷ []) (m ∷ []) r s (λ _. wide.first n r) (λ _. wide.first m s) e) [
      | has a b same ↦
          let parts = split_at (to_be_bytes w n) (to_be_bytes w m) r s (wide.len n ∙ sym (wide.len m)) same in
          (sym (wide.again n (ltb-true _ _ a)) ∙ (ap (from_be_bytes w) parts.0 ∙ wide.again m (ltb-true _ _ b)), parts.1)
      | lacks a b same ↦
          let head : n ≡ m = cc in
          let tail : r ≡ s = cc in
          (head, tail)
    ]

pub num_prefix_free : (w : Width) → IsWide w → IsPrefixFree (num w)
num_prefix_free w wide = record { apart = num_apart w wide }

-- a number of the width is its bytes
pub num-is : (w : Width) (n : ℕ) → n < 256 ^ byte_len w → num w n ≡ to_be_bytes w n
unfolding num
num-is w n lt = rw (lt-ltb _ _ lt) refl

pub num-from_bytes : (w : Width) → IsWide w → (bytes : List ℕ) → length bytes ≡ byte_len w → ((i : ℕ) → get_or bytes i 0 < 256) → num w (from_be_bytes w bytes) ≡ bytes
num-from_bytes w wide bytes len fits = num-is w (from_be_bytes w bytes) (wide.below bytes fits) ∙ wide.back bytes len fits

-- no number is encoded at the front of too few bytes
pub short_of : (w : Width) → IsWide w → {fits : ℕ → Type 0} (bytes : List ℕ) → ((i : ℕ) → get_or bytes i 0 < 256) → length bytes < byte_len w → NoPrefix fits (num w) bytes
short_of w wide bytes are_bytes short = record { none = λ n rest f e. too_short w wide n bytes rest are_bytes short e }

-- a number at the front of bytes
pub read_at : (w : Width) → IsWide w → (bytes : List ℕ) → ((i : ℕ) → get_or bytes i 0 < 256) → byte_len w ≤ length bytes
    → bytes ≡ num w (from_be_bytes w (take (byte_len w) bytes)) ++ drop (byte_len w) bytes
read_at w wide bytes are_bytes long =
    let front = num-from_bytes w wide (take (byte_len w) bytes) (omega (arith, length-take (byte_len w) bytes)) (are_bytes-take (byte_len w) bytes are_bytes) in
    rw front (sym (take-append-drop (byte_len w) bytes))

-- back from two's complement
as_signed : ℕ → ℤ
as_signed m =
    if nat_lt m (2 ^ 32) then cast_signed w32 m
    else if nat_eq (m % 2) 0 then pos ((m - 2 ^ 32) / 2)
    else negsuc ((m - 2 ^ 32) / 2)

-- the three ways of a test that is known
small : {X : Type 0} (m : ℕ) (x y z : X) → m < 2 ^ 32 → (if nat_lt m (2 ^ 32) then x else if nat_eq (m % 2) 0 then y else z) ≡ x
small m x y z lt = rw (lt-ltb _ _ lt) refl

even : {X : Type 0} (m : ℕ) (x y z : X) → 2 ^ 32 ≤ m → m % 2 ≡ 0 → (if nat_lt m (2 ^ 32) then x else if nat_eq (m % 2) 0 then y else z) ≡ y
even m x y z le e = rw (le-ltb _ _ le, e) refl

odd : {X : Type 0} (m : ℕ) (x y z : X) → 2 ^ 32 ≤ m → m % 2 ≡ 1 → (if nat_lt m (2 ^ 32) then x else if nat_eq (m % 2) 0 then y else z) ≡ z
odd m x y z le e = rw (le-ltb _ _ le, e) refl

as_signed-pos : (n : ℕ) (b : Bool) → nat_lt n (2 ^ 31) ≡ b → as_signed (if b then n else 2 ^ 32 + 2 * n) ≡ pos n
unfolding as_signed
as_signed-pos n true e =
    small n _ _ _ (omega (arith, ltb-true _ _ e)) ∙ rw e refl
as_signed-pos n false e =
    let le : 2 ^ 31 ≤ n = ltb-false _ _ e in
    even (2 ^ 32 + 2 * n) _ _ _ (omega arith) (omega arith) ∙ ap pos (omega arith)

as_signed-negsuc : (n : ℕ) (b : Bool) → nat_lt n (2 ^ 31) ≡ b → as_signed (if b then 2 ^ 32 - (n + 1) else 2 ^ 32 + (2 * n + 1)) ≡ negsuc n
unfolding as_signed
as_signed-negsuc n true e =
    let lt : n < 2 ^ 31 = ltb-true _ _ e in
    let high : nat_lt (2 ^ 32 - (n + 1)) (2 ^ 31) ≡ false = le-ltb _ _ (omega arith) in
    small (2 ^ 32 - (n + 1)) _ _ _ (omega arith) ∙ rw high (ap negsuc (omega arith))
as_signed-negsuc n false e =
    let le : 2 ^ 31 ≤ n = ltb-false _ _ e in
    odd (2 ^ 32 + (2 * n + 1)) _ _ _ (omega arith) (omega arith) ∙ ap negsuc (omega arith)

as_signed-as_unsigned : (z : ℤ) → as_signed (as_unsigned z) ≡ z
as_signed-as_unsigned (pos n) = as_signed-pos n (nat_lt n (2 ^ 31)) refl
as_signed-as_unsigned (negsuc n) = as_signed-negsuc n (nat_lt n (2 ^ 31)) refl

-- the bits of a signed number of 32 bits
as_unsigned-of : (m : ℕ) → m < 2 ^ 32 → as_unsigned (cast_signed w32 m) ≡ m
as_unsigned-of m lt =
    elim (cases_Bool (nat_lt m (2 ^ 31))) [
      | inl low ↦ rw (low, low) refl
      | inr high ↦
          let le : 2 ^ 31 ≤ m = ltb-false _ _ high in
          let inside : nat_lt (2 ^ 32 - suc m) (2 ^ 31) ≡ true = lt-ltb _ _ (omega arith) in
          rw (high, inside) (omega arith)
    ]

pub as_unsigned-is : (z : ℤ) → FitsSigned w32 z → as_unsigned z ≡ cast_unsigned w32 z
as_unsigned-is (pos n) fits =
    let lt : n < 2 ^ 31 = omega (arith, fits.sfits) in
    rw (lt-ltb _ _ lt) refl
as_unsigned-is (negsuc n) fits =
    let lt : n < 2 ^ 31 = omega (arith, fits.sfits) in
    rw (lt-ltb _ _ lt) (omega arith)

as_unsigned_same : (z y : ℤ) → as_unsigned z ≡ as_unsigned y → z ≡ y
as_unsigned_same z y e = sym (as_signed-as_unsigned z) ∙ (ap as_signed e ∙ as_signed-as_unsigned y)

pub num_signed_prefix_free : IsPrefixFree num_signed
unfolding num_signed
num_signed_prefix_free = record {
  apart = λ z y r s e.
      let both = num_apart w32 wide32 (as_unsigned z) (as_unsigned y) r s e in
      (as_unsigned_same z y both.0, both.1);
}

-- a signed number at the front of bytes
pub signed_at : (bytes : List ℕ) → ((i : ℕ) → get_or bytes i 0 < 256) → 4 ≤ length bytes
    → bytes ≡ num_signed (cast_signed w32 (from_be_bytes w32 (take 4 bytes))) ++ drop 4 bytes
unfolding num_signed
signed_at bytes are_bytes long =
    let below = wide32.below (take 4 bytes) (are_bytes-take 4 bytes are_bytes) in
    rw (as_unsigned-of (from_be_bytes w32 (take 4 bytes)) (omega arith)) (read_at w32 wide32 bytes are_bytes long)

pub short_of_signed : {fits : ℤ → Type 0} (bytes : List ℕ) → ((i : ℕ) → get_or bytes i 0 < 256) → length bytes < 4 → NoPrefix fits num_signed bytes
unfolding num_signed
short_of_signed bytes are_bytes short = record { none = λ z rest f e. too_short w32 wide32 (as_unsigned z) bytes rest are_bytes short e }

below-32 : (z : ℤ) → FitsSigned w32 z → cast_unsigned w32 z < 2 ^ 32
below-32 (pos n) fits = omega (arith, fits.sfits)
below-32 (negsuc n) fits = omega arith

pub num_signed-is : (z : ℤ) → FitsSigned w32 z → num_signed z ≡ to_be_bytes w32 (cast_unsigned w32 z)
unfolding num_signed
num_signed-is z fits = rw (as_unsigned-is z fits) (num-is w32 (cast_unsigned w32 z) (below-32 z fits))

-- a byte is its own text
pub num-byte : (n : ℕ) → n < 256 → num w8 n ≡ n ∷ []
num-byte n lt =
    let same : n % 256 ≡ n = omega arith in
    num-is w8 n lt ∙ ap (λ (b : ℕ). b ∷ []) same

pub byte_at_front : (bytes : List ℕ) → ((i : ℕ) → get_or bytes i 0 < 256) → 1 ≤ length bytes
    → bytes ≡ num w8 (get_or bytes 0 0) ++ take (length bytes - 1) (drop 1 bytes)
byte_at_front [] are_bytes long = absurd (omega arith)
byte_at_front (x ∷ xs) are_bytes long =
    rw (num-byte x (are_bytes 0), take_all (suc (length xs) - 1) xs (omega arith)) refl
