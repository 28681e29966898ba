-- The rows of a file: its tables are 0 item, 1 change, 2 process, 3 reply, 4 parked.
use Rattle.std.specs.Prelude.{◌≡◌, ℕ, suc, pos, ◌+◌, ◌++◌, List, [], ◌∷◌, Option, None, Some, map, if◌then◌else◌}
use Rattle.sqlite_value.specs.declared.value.Value.TheVariants.{Null, Int, Blob}
use Rattle.sqlite_value.specs.Order.{Row}
use Rattle.sqlite_trees.specs.Tree.{has_rowid}
use Rattle.row_store.specs.declared.change.RowChange.{RowChange}
use Rattle.row_store.specs.declared.change.RowChange.TheVariants.{Put, Remove}
use Rattle.wire.specs.Field.{list_text}
use Rattle.item_rows.specs.Row.{number_column}
use Rattle.item_rows.specs.Changes.{ItemChange}
use Rattle.item_rows.specs.RowItems.{RowItems, items_row, row_items_text}
use Rattle.shelf.specs.declared.process.SavedProcess.{SavedProcess}
use Rattle.shelf.specs.declared.reply.ReplyChange.{ReplyChange}
use Rattle.shelf.specs.declared.reply.ReplyChange.TheVariants.{Kept, Gone}
use Rattle.shelf.specs.declared.reply.LongReply.{LongReply}

-- the row of this number, if there is one
abbrev pub row_at : List Row → ℕ → Option Row
row_at [] n = None
row_at (r ∷ rs) n = if has_rowid (pos n) r then Some r else row_at rs n

-- what a save changed, under the number of the save
abbrev pub change_row : ℕ → List RowItems → Row
change_row number changes = Int (pos number) ∷ Null ∷ Blob (list_text row_items_text changes) ∷ []

-- the rows of saves whose numbers follow each other
abbrev pub change_rows : ℕ → List (List RowItems) → List Row
change_rows first [] = []
change_rows first (changes ∷ log) = change_row first changes ∷ change_rows (suc first) log

-- the one row of a process
abbrev pub process_row : SavedProcess → Row
process_row p = Int (pos 1) ∷ Null ∷ number_column p.stamp.start ∷ number_column p.stamp.save ∷ Blob p.site ∷ Int (pos p.folder) ∷ Int (pos p.folders) ∷ Blob p.text ∷ []

abbrev pub process_rows : Option SavedProcess → List Row
process_rows None = []
process_rows (Some p) = process_row p ∷ []

abbrev pub reply_row : LongReply → Row
reply_row r = Int (pos r.client) ∷ Null ∷ number_column r.number ∷ Blob r.text ∷ []

-- changes of the rows of a table: the number of a row, and what it becomes
abbrev pub row_of_change : RowItems → ItemChange Row
row_of_change row_items = (row_items.0, items_row row_items)

abbrev pub row_of_reply : ReplyChange → ItemChange Row
row_of_reply (Kept reply) = (reply.client, Some (reply_row reply))
row_of_reply (Gone client) = (client, None)

abbrev pub change_in : ℕ → ItemChange Row → RowChange
change_in table (number, None) = Remove table (pos number)
change_in table (number, Some row) = Put table row
