-- Numbers as they are written, and as the profile reads them.
use Rattle.std.proofs.Common.{◌≡◌, ℕ, zero, suc, ◌+◌, ◌^◌, ◌<◌, ◌≤◌, Bool, true, false, ◌&&◌, List, [], ◌∷◌, ◌++◌, length, Option, Some, None, refl, sym, ap, ◌∙◌, arith, if◌then◌else◌}
use Rattle.std.specs.Prelude.{ℤ, pos, negsuc, neg_ℤ, nat_le, nat_lt, decimal, ◌==◌}
use Rattle.std.specs.Fmt.{signed_decimal}
use Rattle.std.specs.List.{list_all}
use Rattle.std.specs.Str.{all_ascii_digits}
use Rattle.std.specs.Str.Parse.{AllDigits, digits_value}
use Rattle.std.proofs.lemmas.Fmt.{decimal_is_IsNumeral, length-decimal-le}
use Rattle.std.proofs.lemmas.Str.Parse.{digit_from_value, tells_all_ascii_digits, numerals_by_value}
use Rattle.std.proofs.lemmas.Bool.Decides.{nat_tests}
use Rattle.proto.specs.Key.{is_key, is_key_byte}
use Rattle.proto.specs.Number.{is_number, number_below, exptime_of}
use Rattle.proto.specs.declared.key.TheConstants.{MOST_KEY_BYTES}
use Rattle.grammar.proofs.WordLemmas.{all_true}

-- ---- they are words

digit_byte : (c : ℕ) → 48 ≤ c → c ≤ 57 → is_key_byte c ≡ true
digit_byte c l m = grind (arith, nat_tests)

digit_bytes : (ds : List ℕ) → AllDigits 10 ds → list_all is_key_byte ds ≡ true
digit_bytes [] d = refl
digit_bytes (c ∷ ds) d =
    let r = digit_from_value c d.0 in
    all_true (is_key_byte c) (list_all is_key_byte ds) (digit_byte c r.0 r.1) (digit_bytes ds d.1)

word_of : (w : List ℕ) → 1 ≤ length w → length w ≤ 250 → list_all is_key_byte w ≡ true → is_key w ≡ true
word_of w some short bytes = all_true _ _ (all_true _ _ (one (length w) some) (few (length w) short)) bytes
  where
    one : (n : ℕ) → 1 ≤ n → nat_le 1 n ≡ true
    one n l = grind (arith, nat_tests)

    few : (n : ℕ) → n ≤ 250 → nat_le n MOST_KEY_BYTES ≡ true
    few n l = grind (arith, nat_tests)

pub decimal_word : (n : ℕ) → n < 2 ^ 64 → is_key (decimal n) ≡ true
decimal_word n l =
    let d = decimal_is_IsNumeral n l in
    let some : 0 < length (decimal n) = d.0.0 in
    let short = length-decimal-le 20 n (omega arith) (omega (arith, l)) l in
    word_of (decimal n) (omega (arith, some)) (omega (arith, short)) (digit_bytes (decimal n) d.0.1)

-- a number of 32 bits, of which one is its sign
abbrev pub IsSigned32 : ℤ → Type 0
IsSigned32 (pos n) = n < 2 ^ 31
IsSigned32 (negsuc n) = n < 2 ^ 31

pub signed_word : (e : ℤ) → IsSigned32 e → is_key (signed_decimal e) ≡ true
signed_word (pos n) l = decimal_word n (omega (arith, l))
signed_word (negsuc n) l =
    let below : suc n < 2 ^ 64 = omega (arith, l) in
    let d = decimal_is_IsNumeral (suc n) below in
    let short = length-decimal-le 20 (suc n) (omega arith) (omega (arith, below)) below in
    word_of (45 ∷ decimal (suc n)) (omega arith) (omega (arith, short)) (digit_bytes (decimal (suc n)) d.0.1)

-- ---- they are read as they were written

chosen_some : {A : Type 0} (b : Bool) (x : A) → b ≡ true → (if b then Some x else None) ≡ Some x
chosen_some b x e = ap (λ (c : Bool). if c then Some x else None) e

is_decimal : (n : ℕ) → n < 2 ^ 64 → is_number (decimal n) ≡ true
is_decimal n l =
    let d = decimal_is_IsNumeral n l in
    all_true _ _ (some (length (decimal n)) d.0.0) ((numerals_by_value (λ ds. all_ascii_digits ds ≡ true) tells_all_ascii_digits).from (decimal n) d.0.1)
  where
    some : (m : ℕ) → 0 < m → nat_lt 0 m ≡ true
    some m l = grind (arith, nat_tests)

pub decimal_read : (limit n : ℕ) → n < limit → n < 2 ^ 64 → number_below limit (decimal n) ≡ Some n
decimal_read limit n l small =
    let value : digits_value 10 (decimal n) ≡ n = (decimal_is_IsNumeral n small).1 in
    chosen_some _ (digits_value 10 (decimal n)) (all_true _ _ (is_decimal n small) (ap (λ m. nat_lt m limit) value ∙ below n limit l)) ∙ ap Some value
  where
    below : (m k : ℕ) → m < k → nat_lt m k ≡ true
    below m k l = grind (arith, nat_tests)

-- digits have no sign in front
plain_exptime : (ds : List ℕ) → is_number ds ≡ true → AllDigits 10 ds → digits_value 10 ds < 2 ^ 31 → exptime_of ds ≡ Some (pos (digits_value 10 ds))
plain_exptime [] e d l = absurd (let f : false ≡ true = e in cc f)
plain_exptime (c ∷ cs) e d l =
    let r = digit_from_value c d.0 in
    ap (λ (b : Bool). if b then (if is_number cs && nat_le (digits_value 10 cs) (2 ^ 31) then Some (neg_ℤ (pos (digits_value 10 cs))) else None)
    else (if is_number (c ∷ cs) && nat_lt (digits_value 10 (c ∷ cs)) (2 ^ 31) then Some (pos (digits_value 10 (c ∷ cs))) else None)) (no_minus c r.0)
    ∙ chosen_some _ (pos (digits_value 10 (c ∷ cs))) (all_true _ _ e (below (digits_value 10 (c ∷ cs)) l))
  where
    no_minus : (c : ℕ) → 48 ≤ c → (c == 45) ≡ false
    no_minus c l = grind (arith, nat_tests)

    below : (m : ℕ) → m < 2 ^ 31 → nat_lt m (2 ^ 31) ≡ true
    below m l = grind (arith, nat_tests)

pub exptime_read : (e : ℤ) → IsSigned32 e → exptime_of (signed_decimal e) ≡ Some e
exptime_read (pos n) l =
    let small : n < 2 ^ 64 = omega (arith, l) in
    let d = decimal_is_IsNumeral n small in
    let value : digits_value 10 (decimal n) ≡ n = d.1 in
    plain_exptime (decimal n) (is_decimal n small) d.0.1 (omega (arith, l, value)) ∙ ap (λ (m : ℕ). Some (pos m)) value
exptime_read (negsuc n) l =
    let small : suc n < 2 ^ 64 = omega (arith, l) in
    let d = decimal_is_IsNumeral (suc n) small in
    let value : digits_value 10 (decimal (suc n)) ≡ suc n = d.1 in
    chosen_some _ (neg_ℤ (pos (digits_value 10 (decimal (suc n))))) (all_true _ _ (is_decimal (suc n) small) (ap (λ m. nat_le m (2 ^ 31)) value ∙ below n l)) ∙ ap (λ (m : ℕ). Some (neg_ℤ (pos m))) value
  where
    below : (m : ℕ) → m < 2 ^ 31 → nat_le (suc m) (2 ^ 31) ≡ true
    below m l = grind (arith, nat_tests)
