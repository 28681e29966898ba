use Rattle.one_server_laws.proofs.Runs.{are_of_one_server}
use Rattle.one_server_laws.proofs.laws.worlds_are_of_one_server.Goals as goal

pub returns : goal.returns
returns c = are_of_one_server c.worlds_are_in_time.ensures
