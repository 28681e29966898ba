use Rattle.dialect.proofs.MetaLemmas.{grows_twice}
use Rattle.dialect.proofs.meta_text.write_fields.Goals as goal

pub returns-in_err-write_field-clause-grows : goal.returns-in_err-write_field-clause-grows
returns-in_err-write_field-clause-grows c = grows_twice _ _ _ c.loop-field.invariant.grows c.write_field.ensures.grows
