use Rattle.std.proofs.Common.{length}
use Rattle.site_file.proofs.FormLemmas.{filled_is}
use Rattle.site_file.proofs.key_file.KeyFile.read.Goals as goal

pub returns-in_default-front_line-clause-err : goal.returns-in_default-front_line-clause-err
returns-in_default-front_line-clause-err c = (
  c.in-Some.line.key,
  c.in-Some.line.rest.now,
  c.in-Some.ensures.some,
  filled_is (length c.in-Some.line.rest.now) c.if-is_empty.ensures,
  c.in_default-front_line.ensures.none,
)
