use Rattle.std.proofs.Common.{[]}
use Rattle.rollback.proofs.saved_chain.texts_of.Goals as goal

pub returns : goal.returns
returns c = c.in_ok-put_members.ensures [] c.new-texts.ensures.items
