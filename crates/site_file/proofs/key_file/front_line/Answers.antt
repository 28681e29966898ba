use Rattle.site_file.proofs.KeyTextLemmas.{line_with, no_key_no_line, no_end_no_line}
use Rattle.site_file.proofs.key_file.front_line.Goals as goal

pub returns-in_default-clause-none : goal.returns-in_default-clause-none
returns-in_default-clause-none c = λ key rest. no_key_no_line c.args.text.now key rest c.in_default.ensures.none

pub returns-in-Some-after_end-clause-some : goal.returns-in-Some-after_end-clause-some
returns-in-Some-after_end-clause-some c = line_with c.args.text.now c.in-Some.front.key c.in-Some.front.rest.now c.in-Some-after_end.rest.now c.in-Some.ensures.some c.in-Some-after_end.ensures.some

pub returns-in-None-clause-none : goal.returns-in-None-clause-none
returns-in-None-clause-none c = λ other rest. no_end_no_line c.args.text.now c.in-Some.front.key c.in-Some.front.rest.now other rest c.in-Some.ensures.some c.in-None.ensures.none
