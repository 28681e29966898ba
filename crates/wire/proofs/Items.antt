-- The fields of an item, and the bytes of their numbers.
use Rattle.std.proofs.Common.{◌≡◌, ℕ, ◌<◌, ◌≤◌, ◌^◌, List, ◌∷◌, ◌++◌, length, Option, Some, None, refl, sym, subst, append_assoc, Result, Ok, Err, OnOk}
use Rattle.std.specs.Int.{w32, w64, to_be_bytes}
use Rattle.proto.specs.declared.block.TheConstants.{MOST_BLOCK_BYTES}
use Rattle.items.specs.declared.item.Item.{Item}
use Rattle.wire.specs.Record.{Puts}
use Rattle.wire.specs.Number.{num}
use Rattle.wire.specs.NumberLaws.{num-is}
use Rattle.wire.specs.Field.{option_text}
use Rattle.wire.specs.Item.{item_text}
use Rattle.wire.specs.BlockLaws.{block_text-is}

pub lasting_text : (flags unique len : ℕ) (due : Option ℕ) → due ≡ None → flags < 2 ^ 32 → unique < 2 ^ 64 → len < 2 ^ 32
    → num w32 flags ++ option_text (num w64) due ++ num w64 unique ++ num w32 len ≡ to_be_bytes w32 flags ++ 0 ∷ to_be_bytes w64 unique ++ to_be_bytes w32 len
lasting_text flags unique len due none a b c = rw (none, num-is w32 flags a, num-is w64 unique b, num-is w32 len c) refl

pub passing_text : (flags time unique len : ℕ) (due : Option ℕ) → due ≡ Some time → flags < 2 ^ 32 → time < 2 ^ 64 → unique < 2 ^ 64 → len < 2 ^ 32
    → num w32 flags ++ option_text (num w64) due ++ num w64 unique ++ num w32 len ≡ to_be_bytes w32 flags ++ 1 ∷ to_be_bytes w64 time ++ to_be_bytes w64 unique ++ to_be_bytes w32 len
passing_text flags time unique len due some a b c d = rw (some, num-is w32 flags a, num-is w64 time b, num-is w64 unique c, num-is w32 len d) refl

-- the fields and the length, and then the data
pub fields_and_data : (item : Item) → length item.block ≤ MOST_BLOCK_BYTES
    → item_text item ≡ (num w32 item.flags ++ option_text (num w64) item.due ++ num w64 item.unique ++ num w32 (length item.block)) ++ item.block
fields_and_data item few =
    rw (block_text-is item.block few) (sym (append_assoc (num w32 item.flags ++ option_text (num w64) item.due ++ num w64 item.unique) (num w32 (length item.block)) item.block))

-- one text put after another
pub both_put : {S E : Type 0} (r : Result (Unit {0}) E) (holds : S → List ℕ → Type 0) (first second : List ℕ) (old between new : S)
    → Puts holds first old between → OnOk r (Puts holds second between new) → OnOk r (Puts holds (first ++ second) old new)
both_put (Ok x) holds first second old between new a b = λ m held. subst (holds new) (append_assoc m first second) (b (m ++ first) (a m held))
both_put (Err e) holds first second old between new a b = tt
