use Rattle.one_server_laws.proofs.AskedProved.{given_is_replied}
use Rattle.one_server_laws.proofs.requests.given_is_replied_in_worlds.Goals as goal

pub returns : goal.returns
returns c = given_is_replied
