use Rattle.site_file.proofs.KeyTextLemmas.{ended, newline, no_newline}
use Rattle.site_file.proofs.key_file.after_end.Goals as goal

pub returns-in-None-clause-some : goal.returns-in-None-clause-some
returns-in-None-clause-some c = ended c.args.text.now c.in-None.ensures.cases

pub returns-then-byte-eq10-clause-some : goal.returns-then-byte-eq10-clause-some
returns-then-byte-eq10-clause-some c = newline c.args.text.now c.in-Some.rest.now c.in-Some.byte.now c.in-Some.ensures.cases.0 c.if-byte-eq10.true

pub returns-else-byte-eq10-clause-none : goal.returns-else-byte-eq10-clause-none
returns-else-byte-eq10-clause-none c = λ other. no_newline c.args.text.now c.in-Some.rest.now other c.in-Some.byte.now c.in-Some.ensures.cases.0 c.if-byte-eq10.false
