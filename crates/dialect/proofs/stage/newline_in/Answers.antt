use Rattle.proto.proofs.NewlineLemmas.{finds_newline}
use Rattle.dialect.proofs.stage.newline_in.Goals as goal

pub returns : goal.returns
returns c = finds_newline c.args.bytes.now c.memchr.result c.memchr.ensures
