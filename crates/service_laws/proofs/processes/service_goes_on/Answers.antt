use Rattle.service.specs.Process.{services_with}
use Rattle.service_laws.proofs.Cuts.{linearizable}
use Rattle.service_laws.proofs.processes.service_goes_on.Goals as goal

pub returns : goal.returns
returns c = λ earlier are found.
    let whole = c.a_service_follows_others.ensures earlier are found in
    linearizable (services_with earlier c.args.service.now) whole.connections whole.history whole.moments whole.service whole.ensemble c.worlds_are_of_one_server.ensures c.worlds_are_in_time.ensures
