use Rattle.std.proofs.Common.{[]}
use Rattle.item_rows.proofs.row_items.text_of.Goals as goal

pub returns : goal.returns
returns c = c.in_ok-put_list.ensures [] c.new-text.ensures.items
