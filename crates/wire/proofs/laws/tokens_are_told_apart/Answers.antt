use Rattle.wire.specs.TokenLaws.{token_text_free}
use Rattle.wire.proofs.Values.{told_apart}
use Rattle.wire.proofs.laws.tokens_are_told_apart.Goals as goal

pub returns-clause-one : goal.returns-clause-one
returns-clause-one c = told_apart token_text_free

pub returns-clause-whole : goal.returns-clause-whole
returns-clause-whole c = token_text_free
