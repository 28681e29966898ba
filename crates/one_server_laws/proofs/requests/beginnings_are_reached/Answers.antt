use Rattle.one_server_laws.proofs.AskedProved.{asked_stays_asked, beginning_is_reached}
use Rattle.one_server_laws.proofs.requests.beginnings_are_reached.Goals as goal

pub returns-clause-reached : goal.returns-clause-reached
returns-clause-reached c = beginning_is_reached

pub returns-clause-asked : goal.returns-clause-asked
returns-clause-asked c = asked_stays_asked
