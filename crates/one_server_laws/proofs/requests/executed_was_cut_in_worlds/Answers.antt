use Rattle.one_server_laws.proofs.AskedProved.{executed_was_cut}
use Rattle.one_server_laws.proofs.requests.executed_was_cut_in_worlds.Goals as goal

pub returns : goal.returns
returns c = executed_was_cut
