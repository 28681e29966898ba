-- No key is a prefix of another, nor a list of keys.
use Rattle.std.proofs.Common.{◌≡◌, ℕ, suc, ◌+◌, ◌<◌, ◌≤◌, Bool, true, List, [], ◌∷◌, ◌++◌, length, get_or, take, drop, refl, sym, ◌∙◌, ap, arith, append_assoc, inl, inr}
use Rattle.std.specs.Prelude.{◌&&◌, nat_le, nat_eq}
use Rattle.std.specs.Int.{w8}
use Rattle.std.specs.List.{list_all}
use Rattle.std.proofs.lemmas.Bool.{cases_Bool, leb-true, le-leb, ltb-true, lt-ltb, eqb-true, eq-eqb}
use Rattle.std.proofs.lemmas.List.{length-append, length-take, take-append-drop}
use Rattle.proto.specs.declared.key.TheConstants.{MOST_KEY_BYTES, MOST_KEYS}
use Rattle.proto.specs.Key.{is_key, is_key_byte}
use Rattle.wire.specs.Record.{IsPrefixFree, NoPrefix}
use Rattle.wire.specs.Number.{only_if, num, fixed, is_byte}
use Rattle.wire.specs.Field.{list_text}
use Rattle.wire.specs.Key.{key_text, keys_text, are_few_keys}
use Rattle.wire.specs.FrontLaws.{split_at, tail_of, head_of, both_ways, has, lacks, both_true}
use Rattle.wire.specs.NumberLaws.{num_prefix_free, num-byte, wide8, are_bytes-take}
use Rattle.wire.specs.LimitedLaws.{limited_prefix_free, limited_at_front}

-- a key has at most MOST_KEY_BYTES bytes
pub key_length : (key : List ℕ) → is_key key ≡ true → length key ≤ MOST_KEY_BYTES
key_length key h =
    let a = both_true (nat_le 1 (length key) && nat_le (length key) MOST_KEY_BYTES) (list_all is_key_byte key) h in
    let b = both_true (nat_le 1 (length key)) (nat_le (length key) MOST_KEY_BYTES) a.0 in
    leb-true _ _ b.1

key_head : (key rest : List ℕ) → is_key key ≡ true → head_of ((num w8 (length key) ++ key) ++ rest) < 256
key_head key rest h =
    let short = key_length key h in
    rw (num-byte (length key) (omega arith)) (omega arith)

key_apart : (x y r s : List ℕ) → key_text x ++ r ≡ key_text y ++ s → (x ≡ y) × (r ≡ s)
unfolding key_text
key_apart x y r s e =
    elim (both_ways (is_key x) (is_key y) (num w8 (length x) ++ x) (num w8 (length y) ++ y) (length x ∷ x) (length y ∷ y) r s (key_head x r) (key_head y s) e) [
      | has a b same ↦
          let len = (num_prefix_free w8 wide8).apart (length x) (length y) (x ++ r) (y ++ s) (sym (append_assoc (num w8 (length x)) x r) ∙ (same ∙ append_assoc (num w8 (length y)) y s)) in
          split_at x y r s len.0 len.1
      | lacks a b same ↦
          split_at x y r s (ap head_of same) (tail_of _ _ _ _ same)
    ]

pub key_prefix_free : IsPrefixFree key_text
key_prefix_free = record { apart = key_apart }

-- a key's length and its bytes are at the front of bytes
pub key_at_front : (key bytes rest : List ℕ) → ((i : ℕ) → get_or bytes i 0 < 256) → bytes ≡ key_text key ++ rest
    → (is_key key ≡ true) × (bytes ≡ num w8 (length key) ++ (key ++ rest))
unfolding key_text
key_at_front key bytes rest are_bytes e =
    elim (cases_Bool (is_key key)) [
      | inl valid ↦ (valid, e ∙ (ap (λ (b : Bool). only_if b (num w8 (length key) ++ key) (length key ∷ key) ++ rest) valid ∙ append_assoc (num w8 (length key)) key rest))
      | inr not ↦
          let same : bytes ≡ 256 ∷ ((length key ∷ key) ++ rest) = e ∙ ap (λ (b : Bool). only_if b (num w8 (length key) ++ key) (length key ∷ key) ++ rest) not in
          let head : get_or bytes 0 0 ≡ 256 = ap (λ (x : List ℕ). get_or x 0 0) same in
          absurd (omega (arith, are_bytes 0))
    ]

pub key_text-is : (key : List ℕ) → is_key key ≡ true → key_text key ≡ num w8 (length key) ++ key
unfolding key_text
key_text-is key h = rw h refl

few_keys : (keys : List (List ℕ)) → are_few_keys keys ≡ true → length keys ≤ MOST_KEYS
few_keys keys h = leb-true (length keys) MOST_KEYS (both_true (nat_le 1 (length keys)) (nat_le (length keys) MOST_KEYS) h).1

keys_apart : (xs ys : List (List ℕ)) (r s : List ℕ) → keys_text xs ++ r ≡ keys_text ys ++ s → (xs ≡ ys) × (r ≡ s)
unfolding keys_text
keys_apart xs ys r s e = (limited_prefix_free are_few_keys few_keys key_text key_prefix_free).apart xs ys r s e

pub keys_prefix_free : IsPrefixFree keys_text
keys_prefix_free = record { apart = keys_apart }

-- a list of 1 to MOST_KEYS keys is at the front of bytes
pub keys_at_front : (keys : List (List ℕ)) (bytes rest : List ℕ) → ((i : ℕ) → get_or bytes i 0 < 256) → bytes ≡ keys_text keys ++ rest
    → (1 ≤ length keys) × (length keys ≤ MOST_KEYS) × (bytes ≡ list_text key_text keys ++ rest)
unfolding keys_text
keys_at_front keys bytes rest are_bytes e =
    let front = limited_at_front are_few_keys key_text keys bytes rest are_bytes e in
    let both = both_true (nat_le 1 (length keys)) (nat_le (length keys) MOST_KEYS) front.0 in
    (leb-true _ _ both.0, leb-true _ _ both.1, front.1)

pub keys_text-is : (keys : List (List ℕ)) → 1 ≤ length keys → length keys ≤ MOST_KEYS → keys_text keys ≡ list_text key_text keys
unfolding keys_text
keys_text-is keys some few = rw (le-leb _ _ some, le-leb _ _ few) refl

-- ---- texts of a fixed length

fixed_head : (size : ℕ) (text rest : List ℕ) → nat_eq (length text) (suc size) && list_all is_byte text ≡ true → head_of (text ++ rest) < 256
fixed_head size [] rest h = absurd (omega (arith, eqb-true 0 (suc size) (both_true (nat_eq 0 (suc size)) true h).0))
fixed_head size (x ∷ xs) rest h =
    let bytes = (both_true (nat_eq (length (x ∷ xs)) (suc size)) (list_all is_byte (x ∷ xs)) h).1 in
    ltb-true x 256 (both_true (is_byte x) (list_all is_byte xs) bytes).0

fixed_apart : (size : ℕ) (x y r s : List ℕ) → fixed (suc size) x ++ r ≡ fixed (suc size) y ++ s → (x ≡ y) × (r ≡ s)
unfolding fixed
fixed_apart size x y r s e =
    let long : (z : List ℕ) → nat_eq (length z) (suc size) && list_all is_byte z ≡ true → length z ≡ suc size = λ z h. eqb-true _ _ (both_true (nat_eq (length z) (suc size)) (list_all is_byte z) h).0 in
    elim (both_ways (nat_eq (length x) (suc size) && list_all is_byte x) (nat_eq (length y) (suc size) && list_all is_byte y) x y (length x ∷ x) (length y ∷ y) r s (fixed_head size x r) (fixed_head size y s) e) [
      | has a b same ↦ split_at x y r s (long x a ∙ sym (long y b)) same
      | lacks a b same ↦ split_at x y r s (ap head_of same) (tail_of _ _ _ _ same)
    ]

pub fixed_prefix_free : (size : ℕ) → IsPrefixFree (fixed (suc size))
fixed_prefix_free size = record { apart = fixed_apart size }

list_all_bytes : (text : List ℕ) → ((i : ℕ) → get_or text i 0 < 256) → list_all is_byte text ≡ true
list_all_bytes [] h = refl
list_all_bytes (x ∷ xs) h = rw (lt-ltb _ _ (h 0), list_all_bytes xs (λ i. h (suc i))) refl

-- bytes of that length are their own text
pub fixed-is : (size : ℕ) (text : List ℕ) → length text ≡ size → ((i : ℕ) → get_or text i 0 < 256) → fixed size text ≡ text
unfolding fixed
fixed-is size text len are_bytes = rw (eq-eqb _ _ len, list_all_bytes text are_bytes) refl

pub fixed_at : (size : ℕ) (bytes : List ℕ) → ((i : ℕ) → get_or bytes i 0 < 256) → size ≤ length bytes → bytes ≡ fixed size (take size bytes) ++ drop size bytes
fixed_at size bytes are_bytes long =
    rw (fixed-is size (take size bytes) (omega (arith, length-take size bytes)) (are_bytes-take size bytes are_bytes)) (sym (take-append-drop size bytes))

too_short : (size : ℕ) (text bytes rest : List ℕ) → ((i : ℕ) → get_or bytes i 0 < 256) → length bytes < size → bytes ≡ fixed size text ++ rest → ⊥
unfolding fixed
too_short size text bytes rest are_bytes short e =
    elim (cases_Bool (nat_eq (length text) size && list_all is_byte text)) [
      | inl valid ↦
          let size_is = eqb-true (length text) size (both_true (nat_eq (length text) size) (list_all is_byte text) valid).0 in
          let same : bytes ≡ text ++ rest = e ∙ ap (λ (b : Bool). only_if b text (length text ∷ text) ++ rest) valid in
          let len : length bytes ≡ length text + length rest = ap length same ∙ length-append text rest in
          omega (arith, size_is)
      | inr not ↦
          let same : bytes ≡ 256 ∷ ((length text ∷ text) ++ rest) = e ∙ ap (λ (b : Bool). only_if b text (length text ∷ text) ++ rest) not in
          let head : get_or bytes 0 0 ≡ 256 = ap (λ (x : List ℕ). get_or x 0 0) same in
          omega (arith, are_bytes 0)
    ]

pub short_of_fixed : (size : ℕ) {fits : List ℕ → Type 0} (bytes : List ℕ) → ((i : ℕ) → get_or bytes i 0 < 256) → length bytes < suc size → NoPrefix fits (fixed (suc size)) bytes
short_of_fixed size bytes are_bytes short = record { none = λ text rest f e. too_short (suc size) text bytes rest are_bytes short e }
