use Rattle.one_server_laws.proofs.Runs.{are_in_time}
use Rattle.one_server_laws.proofs.laws.worlds_are_in_time.Goals as goal

pub returns : goal.returns
returns c = are_in_time c.executed_was_cut_in_worlds.ensures c.executed_is_asked_in_worlds.ensures c.given_is_replied_in_worlds.ensures
