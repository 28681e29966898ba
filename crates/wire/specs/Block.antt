-- The data of items in records.
use Rattle.std.specs.Prelude.{ℕ, List, ◌∷◌, ◌++◌, length, nat_le}
use Rattle.std.specs.Int.{w32}
use Rattle.proto.specs.declared.block.TheConstants.{MOST_BLOCK_BYTES}
use Rattle.wire.specs.Number.{num, only_if}

-- a length, and so many bytes; a list above the limit has no such text
unfoldable pub block_text : List ℕ → List ℕ
block_text text = only_if (nat_le (length text) MOST_BLOCK_BYTES) (num w32 (length text) ++ text) (length text ∷ text)
