-- Items that were read, by row number.
use Rattle.std.specs.Prelude.{ℕ, List, Option, None, Some}
use Rattle.std.specs.Ordering.{nat_cmp}
use Rattle.std.specs.BTreeMap.{BTreeMap, get}
use Rattle.sqlite_value.specs.Order.{Row}
use Rattle.items.specs.declared.item.Item.{Item}
use Rattle.item_rows.specs.Changes.{Rows}
use Rattle.item_rows.specs.RowItems.{row_of_items}

-- the row of this number, of what was read of it
abbrev pub row_found : ℕ → Option (List (List ℕ × Item)) → Option Row
row_found row_number None = None
row_found row_number (Some items) = row_of_items row_number items

abbrev pub rows_found : BTreeMap ℕ (List (List ℕ × Item)) → Rows Row
rows_found found row_number = row_found row_number (get nat_cmp found row_number)
