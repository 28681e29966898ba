use Rattle.service.specs.Service.{ServiceView}
use Rattle.service.specs.Process.{IsWhole, found_by}
use Rattle.service.proofs.Ending.{holds_after}
use Rattle.service_laws.specs.Orders.{IsLinearizableService}
use Rattle.service_laws.proofs.Cuts.{linearizable}
use Rattle.service_laws.proofs.orders.service_is_linearizable.Goals as goal

pub returns : goal.returns
returns c =
    let v = c.args.service.now in
    holds_after (found_by v) IsWhole IsLinearizableService v
    (λ (x : ServiceView) (h : IsWhole x). linearizable x h.connections h.history h.moments h.service h.ensemble c.worlds_are_of_one_server.ensures c.worlds_are_in_time.ensures) c.shows.ensures.process
