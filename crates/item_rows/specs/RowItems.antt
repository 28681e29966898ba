-- The row of several items, and the text of such items.
use Rattle.std.specs.Prelude.{ℕ, pos, ◌<◌, ◌^◌, ◌++◌, List, [], ◌∷◌, length, Option, None, Some}
use Rattle.std.specs.Int.{w64}
use Rattle.items.specs.declared.item.Item.{Item}
use Rattle.sqlite_value.specs.declared.value.Value.{Value}
use Rattle.sqlite_value.specs.declared.value.Value.TheVariants.{Null, Blob}
use Rattle.sqlite_value.specs.Order.{Row}
use Rattle.wire.specs.Number.{num}
use Rattle.wire.specs.Field.{list_text}
use Rattle.wire.specs.Item.{entry_text}
use Rattle.item_rows.specs.Row.{full_row}

-- the number of a row, and the items in it
abbrev pub RowItems : Type 0
RowItems = ℕ × List (List ℕ × Item)

-- what is beside the first item of a row
abbrev pub more_column : List (List ℕ × Item) → Value
more_column [] = Null
more_column (e ∷ es) = Blob (list_text entry_text (e ∷ es))

-- the row of this number, of these items: none if there are none
abbrev pub row_of_items : ℕ → List (List ℕ × Item) → Option Row
row_of_items row_number [] = None
row_of_items row_number (e ∷ es) = Some (full_row (pos row_number) e.0 e.1 (more_column es))

abbrev pub items_row : RowItems → Option Row
items_row row_items = row_of_items row_items.0 row_items.1

-- a number that a row may have, and so many items as can be counted
pub record FitsItsRow (row_items : RowItems) : Type 0 where
  pub row_number : row_items.0 < 2 ^ 63
  pub count : length row_items.1 < 2 ^ 32

-- the row number, how many items there are, and the items
abbrev pub row_items_text : RowItems → List ℕ
row_items_text row_items = num w64 row_items.0 ++ list_text entry_text row_items.1
