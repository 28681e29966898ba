use Rattle.run_laws.proofs.Tokens.{number_and_token_tell, token_tells, state_tells_batch}
use Rattle.run_laws.proofs.laws.token_tells_the_state.Goals as goal

pub returns-clause-numbered : goal.returns-clause-numbered
returns-clause-numbered c = number_and_token_tell

pub returns-clause-after_first : goal.returns-clause-after_first
returns-clause-after_first c = token_tells

pub returns-clause-batch : goal.returns-clause-batch
returns-clause-batch c = state_tells_batch
