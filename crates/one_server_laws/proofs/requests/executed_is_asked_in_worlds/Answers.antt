use Rattle.one_server_laws.proofs.AskedProved.{executed_is_asked}
use Rattle.one_server_laws.proofs.requests.executed_is_asked_in_worlds.Goals as goal

pub returns : goal.returns
returns c = executed_is_asked
