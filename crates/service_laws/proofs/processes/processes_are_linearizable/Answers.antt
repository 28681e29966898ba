use Rattle.service_laws.proofs.Cuts.{linearizable}
use Rattle.service_laws.proofs.processes.processes_are_linearizable.Goals as goal
use Rattle.service.specs.Process.{services_after}

pub returns : goal.returns
returns c = λ v later follow.
    let whole = c.services_follow_each_other.ensures v later follow in
    linearizable (services_after v later) whole.connections whole.history whole.moments whole.service whole.ensemble c.worlds_are_of_one_server.ensures c.worlds_are_in_time.ensures
