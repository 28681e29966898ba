use Rattle.dialect.proofs.MetaLemmas.{grows_twice}
use Rattle.dialect.proofs.meta_text.write_words.Goals as goal

pub returns-in_err-write_word-clause-grows : goal.returns-in_err-write_word-clause-grows
returns-in_err-write_word-clause-grows c = grows_twice _ _ _ c.loop-field.invariant.grows c.write_word.ensures.grows
