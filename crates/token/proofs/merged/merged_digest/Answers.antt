use Rattle.std.proofs.Common.{[]}
use Rattle.wire.specs.Item.{page_text}
use Rattle.token.specs.Digest.{digest}
use Rattle.token.proofs.merged.merged_digest.Goals as goal

pub returns : goal.returns
unfolding digest
returns c = λ class whole are. c.finalize.ensures (page_text whole) (c.in-Ok.ensures class whole are [] c.new-hasher.ensures)
