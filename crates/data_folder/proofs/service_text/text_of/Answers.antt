use Rattle.std.proofs.Common.{[]}
use Rattle.data_folder.proofs.service_text.text_of.Goals as goal

pub returns : goal.returns
returns c = c.in_ok-put-2.ensures _ (c.in_ok-put.ensures [] c.new-text.ensures.items)
