use Rattle.service.specs.Service.{ServiceView}
use Rattle.service.specs.Process.{IsWhole, found_by}
use Rattle.service.proofs.Ending.{holds_after}
use Rattle.service_laws.specs.Serving.{IsServing}
use Rattle.service_laws.proofs.ServingLemmas.{is_serving}
use Rattle.service_laws.proofs.law.serves.Goals as goal

pub returns : goal.returns
returns c =
    let v = c.args.service.now in
    holds_after (found_by v) IsWhole IsServing v (λ (x : ServiceView) (h : IsWhole x). is_serving x h.connections h.service h.ensemble c.worlds_are_of_one_server.ensures) c.shows.ensures.process
