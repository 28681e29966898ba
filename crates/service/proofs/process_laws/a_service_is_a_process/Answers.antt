use Rattle.service.proofs.process_laws.a_service_is_a_process.Goals as goal

pub returns : goal.returns
returns c = c.shows.ensures.process
