use Rattle.service.proofs.Ending.{last_whole}
use Rattle.service.proofs.process_laws.a_service_follows_others.Goals as goal

pub returns : goal.returns
returns c = λ earlier are found. last_whole earlier c.args.service.now are c.shows.ensures.process found
