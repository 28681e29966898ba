-- Keys in records.
use Rattle.std.specs.Prelude.{ℕ, Bool, List, ◌∷◌, ◌++◌, length, ◌&&◌, nat_le}
use Rattle.std.specs.Int.{w8}
use Rattle.proto.specs.declared.key.TheConstants.{MOST_KEYS}
use Rattle.proto.specs.Key.{is_key}
use Rattle.wire.specs.Number.{only_if, num}
use Rattle.wire.specs.Field.{limited_text}

-- a length of one byte, and the bytes; a list that is no key has no such text
unfoldable pub key_text : List ℕ → List ℕ
key_text key = only_if (is_key key) (num w8 (length key) ++ key) (length key ∷ key)

abbrev pub are_few_keys : List (List ℕ) → Bool
are_few_keys keys = nat_le 1 (length keys) && nat_le (length keys) MOST_KEYS

-- a count, and 1 to MOST_KEYS keys
unfoldable pub keys_text : List (List ℕ) → List ℕ
keys_text keys = limited_text are_few_keys key_text keys
