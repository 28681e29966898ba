-- Why a text is not at the front of bytes.
use Rattle.std.proofs.Common.{◌≡◌, ℕ, ◌+◌, ◌<◌, ◌≤◌, true, false, List, ◌++◌, length, get_or, sym, ◌∙◌, ap, arith}
use Rattle.std.specs.Int.{w8, w32}
use Rattle.std.proofs.lemmas.List.{length-append}
use Rattle.base.specs.declared.fault.Fault.{Fault}
use Rattle.proto.specs.Key.{is_key}
use Rattle.proto.specs.declared.reply.Found.{Found}
use Rattle.proto.specs.declared.block.TheConstants.{MOST_BLOCK_BYTES}
use Rattle.proto.specs.declared.key.TheConstants.{MOST_KEYS}
use Rattle.wire.specs.Record.{NoPrefix, Refused}
use Rattle.wire.specs.Number.{num}
use Rattle.wire.specs.Field.{list_text, ListFits}
use Rattle.wire.specs.Block.{block_text}
use Rattle.wire.specs.Key.{key_text, keys_text}
use Rattle.wire.specs.Reply.{found_text, values_text}
use Rattle.wire.specs.ReplyLaws.{values_at_front, found_prefix_free}
use Rattle.wire.specs.FrontLaws.{split_at}
use Rattle.wire.specs.NumberLaws.{num_prefix_free, wide8, wide32}
use Rattle.wire.specs.FieldLaws.{list_prefix_free}
use Rattle.wire.specs.BlockLaws.{block_at_front}
use Rattle.wire.specs.KeyLaws.{key_at_front, key_prefix_free, keys_at_front}
use Rattle.wire.proofs.Values.{Refused-weaker}

abbrev AreBytes : List ℕ → Type 0
AreBytes bytes = (i : ℕ) → get_or bytes i 0 < 256

-- the length that was read is that of the text, and within the limit
block_sizes : (size : ℕ) (bytes rest text after : List ℕ) → AreBytes bytes → bytes ≡ num w32 size ++ rest → bytes ≡ block_text text ++ after
    → (length text ≤ MOST_BLOCK_BYTES) × (size ≡ length text) × (rest ≡ text ++ after)
block_sizes size bytes rest text after are_bytes e same =
    let front = block_at_front text bytes after are_bytes same in
    let both = (num_prefix_free w32 wide32).apart size (length text) rest (text ++ after) (sym e ∙ front.1) in
    (front.0, both.0, both.1)

pub no_block_size : (fits : List ℕ → Type 0) {of : ℕ → Type 0} (bytes : List ℕ) → AreBytes bytes → ((n : ℕ) → of n) → (e : Fault)
    → Refused e (NoPrefix of (num w32) bytes) → Refused e (NoPrefix fits block_text bytes)
no_block_size fits {of} bytes are_bytes all e = Refused-weaker e (λ (none : NoPrefix of (num w32) bytes). record {
  none = λ text after f same. none.none (length text) (text ++ after) (all (length text)) (block_at_front text bytes after are_bytes same).1;
})

pub over_limit : {fits : List ℕ → Type 0} (size : ℕ) (bytes rest : List ℕ) → AreBytes bytes → bytes ≡ num w32 size ++ rest → MOST_BLOCK_BYTES < size → NoPrefix fits block_text bytes
over_limit size bytes rest are_bytes e above = record {
  none = λ text after f same. let all = block_sizes size bytes rest text after are_bytes e same in omega (arith, all.0, all.1);
}

pub cut_off : {fits : List ℕ → Type 0} (size : ℕ) (bytes rest : List ℕ) → AreBytes bytes → bytes ≡ num w32 size ++ rest → length rest < size → NoPrefix fits block_text bytes
cut_off size bytes rest are_bytes e short = record {
  none = λ text after f same.
      let all = block_sizes size bytes rest text after are_bytes e same in
      let len : length rest ≡ length text + length after = ap length all.2 ∙ length-append text after in
      omega (arith, all.1);
}

pub no_key_size : (fits : List ℕ → Type 0) {of : ℕ → Type 0} (bytes : List ℕ) → AreBytes bytes → ((n : ℕ) → of n) → (e : Fault)
    → Refused e (NoPrefix of (num w8) bytes) → Refused e (NoPrefix fits key_text bytes)
no_key_size fits {of} bytes are_bytes all e = Refused-weaker e (λ (none : NoPrefix of (num w8) bytes). record {
  none = λ key after f same. none.none (length key) (key ++ after) (all (length key)) (key_at_front key bytes after are_bytes same).1;
})

key_sizes : (size : ℕ) (bytes rest key after : List ℕ) → AreBytes bytes → bytes ≡ num w8 size ++ rest → bytes ≡ key_text key ++ after
    → (is_key key ≡ true) × (size ≡ length key) × (rest ≡ key ++ after)
key_sizes size bytes rest key after are_bytes e same =
    let front = key_at_front key bytes after are_bytes same in
    let both = (num_prefix_free w8 wide8).apart size (length key) rest (key ++ after) (sym e ∙ front.1) in
    (front.0, both.0, both.1)

pub key_cut_off : {fits : List ℕ → Type 0} (size : ℕ) (bytes rest : List ℕ) → AreBytes bytes → bytes ≡ num w8 size ++ rest → length rest < size → NoPrefix fits key_text bytes
key_cut_off size bytes rest are_bytes e short = record {
  none = λ key after f same.
      let all = key_sizes size bytes rest key after are_bytes e same in
      let len : length rest ≡ length key + length after = ap length all.2 ∙ length-append key after in
      omega (arith, all.1);
}

pub not_a_key : {fits : List ℕ → Type 0} (size : ℕ) (bytes rest text others : List ℕ) → AreBytes bytes → bytes ≡ num w8 size ++ rest → length text ≡ size → rest ≡ text ++ others
    → is_key text ≡ false → NoPrefix fits key_text bytes
not_a_key size bytes rest text others are_bytes e len parts not = record {
  none = λ key after f same.
      let all = key_sizes size bytes rest key after are_bytes e same in
      let both = split_at text key others after (len ∙ all.1) (sym parts ∙ all.2) in
      let a : is_key key ≡ true = all.0 in
      let b : is_key key ≡ false = ap is_key (sym both.0) ∙ not in
      absurd (cc (a, b));
}

pub no_keys : (fits : List (List ℕ) → Type 0) {of : List ℕ → Type 0} (bytes : List ℕ) → AreBytes bytes → ((key : List ℕ) → of key) → (e : Fault)
    → Refused e (NoPrefix (ListFits of) (list_text key_text) bytes) → Refused e (NoPrefix fits keys_text bytes)
no_keys fits {of} bytes are_bytes all e = Refused-weaker e (λ (none : NoPrefix (ListFits of) (list_text key_text) bytes). record {
  none = λ keys after f same.
      let front = keys_at_front keys bytes after are_bytes same in
      none.none keys after (record { count = omega (arith, front.1); each = λ k d lt. all _ }) front.2;
})

pub not_so_many : {fits : List (List ℕ) → Type 0} (bytes rest : List ℕ) (keys : List (List ℕ)) → AreBytes bytes → bytes ≡ list_text key_text keys ++ rest
    → (1 ≤ length keys → length keys ≤ MOST_KEYS → ⊥) → NoPrefix fits keys_text bytes
not_so_many bytes rest keys are_bytes e wrong = record {
  none = λ others after f same.
      let front = keys_at_front others bytes after are_bytes same in
      let both = (list_prefix_free key_text key_prefix_free).apart keys others rest after (sym e ∙ front.2) in
      let len : length keys ≡ length others = ap length both.0 in
      wrong (omega (arith, front.0)) (omega (arith, front.1));
}

pub no_values : (fits : List Found → Type 0) {of : Found → Type 0} (bytes : List ℕ) → AreBytes bytes → ((found : Found) → of found) → (e : Fault)
    → Refused e (NoPrefix (ListFits of) (list_text found_text) bytes) → Refused e (NoPrefix fits values_text bytes)
no_values fits {of} bytes are_bytes all e = Refused-weaker e (λ (none : NoPrefix (ListFits of) (list_text found_text) bytes). record {
  none = λ found after f same.
      let front = values_at_front found bytes after are_bytes same in
      none.none found after (record { count = omega (arith, front.0); each = λ k d lt. all _ }) front.1;
})

pub too_many_values : {fits : List Found → Type 0} (bytes rest : List ℕ) (found : List Found) → AreBytes bytes → bytes ≡ list_text found_text found ++ rest
    → MOST_KEYS < length found → NoPrefix fits values_text bytes
too_many_values bytes rest found are_bytes e many = record {
  none = λ others after f same.
      let front = values_at_front others bytes after are_bytes same in
      let both = (list_prefix_free found_text found_prefix_free).apart found others rest after (sym e ∙ front.1) in
      let len : length found ≡ length others = ap length both.0 in
      omega (arith, front.0);
}
