use Rattle.site_file.proofs.KeyTextLemmas.{has_room, begins_with, wrong_digits}
use Rattle.site_file.proofs.key_file.front_key.Goals as goal

pub returns-in_default-clause-none : goal.returns-in_default-clause-none
returns-in_default-clause-none c = λ key rest h. has_room c.args.text.now key rest h c.in_default.ensures.cases

pub returns-in-Ok-clause-some : goal.returns-in-Ok-clause-some
returns-in-Ok-clause-some c =
    begins_with c.args.text.now c.in-Some.digits.now c.in-Ok.key c.in-Some.rest.now c.in-Some.ensures.cases.1 c.in-Some.ensures.cases.2 c.in-Ok.ensures

pub returns-in-Err-clause-none : goal.returns-in-Err-clause-none
returns-in-Err-clause-none c = λ key rest h. wrong_digits c.args.text.now c.in-Some.digits.now key rest _ c.in-Some.ensures.cases.1 c.in-Err.ensures h
