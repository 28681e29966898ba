use Rattle.std.proofs.Common.{[]}
use Rattle.process_text.proofs.process_text.ProcessText.front.Goals as goal

pub returns : goal.returns
returns c = c.in_ok-put-2.ensures _ (c.in_ok-put.ensures [] c.new-front.ensures.items)
