-- Where the row of an item is, and what it has.
use Rattle.std.specs.Prelude.{◌≡◌, ℕ, ℤ, pos, ◌+◌, ◌*◌, ◌/◌, ◌^◌, ◌<◌, ◌≤◌, List, [], ◌∷◌, length, take, Option, None, Some, ⊤}
use Rattle.std.specs.Int.{w64, from_be_bytes, cast_signed}
use Rattle.sha2.specs.Sha256.{sha256}
use Rattle.proto.specs.declared.block.TheConstants.{MOST_BLOCK_BYTES}
use Rattle.pages.specs.Page.{page_number}
use Rattle.items.specs.declared.item.Item.{Item}
use Rattle.sqlite_value.specs.declared.value.Value.{Value}
use Rattle.sqlite_value.specs.declared.value.Value.TheVariants.{Null, Int, Blob}
use Rattle.sqlite_value.specs.Order.{Row, column}

-- the first 55 bits of the path of a key, as a number
abbrev pub first_bits : List ℕ → ℕ
first_bits key = from_be_bytes w64 (take 8 (sha256 key)) / 2 ^ 9

-- the page of the key, and then those bits
abbrev pub row_number_of : List ℕ → ℕ
row_number_of key = page_number key * 2 ^ 55 + first_bits key

-- a number of 64 bits, as a signed one
abbrev pub number_column : ℕ → Value
number_column n = Int (cast_signed w64 n)

abbrev pub due_column : Option ℕ → Value
due_column None = Null
due_column (Some due) = number_column due

-- its number, no value for the column of the number, the columns of an item, and what else is in the row
abbrev pub full_row : ℤ → List ℕ → Item → Value → Row
full_row number key item more = Int number ∷ Null ∷ Blob key ∷ Int (pos item.flags) ∷ due_column item.due ∷ number_column item.unique ∷ Blob item.block ∷ more ∷ []

-- the row of an item whose row number no other item has
abbrev pub item_row : List ℕ → Item → Row
item_row key item = full_row (pos (row_number_of key)) key item Null

-- the columns of an item
pub record HasColumns (row : Row) (key : List ℕ) (item : Item) : Type 0 where
  pub key_is : column row 2 ≡ Blob key
  pub flags_are : column row 3 ≡ Int (pos item.flags)
  pub due_is : column row 4 ≡ due_column item.due
  pub unique_is : column row 5 ≡ number_column item.unique
  pub block_is : column row 6 ≡ Blob item.block

abbrev pub DueFits : Option ℕ → Type 0
DueFits None = ⊤
DueFits (Some due) = due < 2 ^ 64

-- the limits of an item
pub record ItemFits (item : Item) : Type 0 where
  pub block : length item.block ≤ MOST_BLOCK_BYTES
  pub flags : item.flags < 2 ^ 32
  pub due : DueFits item.due
  pub unique : item.unique < 2 ^ 64
