use Rattle.std.proofs.Common.{◌<◌, ◌^◌, ℕ, List, [], length}
use Rattle.std.specs.Prelude.{All}
use Rattle.std.proofs.lemmas.List.Elements.{All-weaker}
use Rattle.wire.specs.Field.{ListFits}
use Rattle.items.specs.declared.item.Item.{Item}
use Rattle.item_rows.specs.RowItems.{RowItems, FitsItsRow}
use Rattle.shelf.proofs.changes.text_of.Goals as goal

-- the limits of a row number and its items in a record
abbrev Fits : RowItems → Type 0
Fits row_items = Unit {0} × ListFits (λ (e : List ℕ × Item). Unit {0} × Unit {0}) row_items.1

fits : (row_items : RowItems) → FitsItsRow row_items → Fits row_items
fits row_items h = (tt, record { count = h.count; each = λ k d less. (tt, tt) })

pub put_list-requires : goal.put_list-requires
put_list-requires c = record { count = c.requires.few; each = All-weaker FitsItsRow Fits fits c.args.changes.now c.requires.each }

pub returns : goal.returns
returns c = c.in_ok-put_list.ensures [] c.new-text.ensures.items
