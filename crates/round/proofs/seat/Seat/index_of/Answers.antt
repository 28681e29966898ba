use Rattle.std.proofs.Common.{ap, ◌∙◌, map}
use Rattle.round.specs.Sittings.{Sitting, Running}
use Rattle.round.proofs.Seats.{near_is}
use Rattle.round.proofs.seat.Seat.index_of.Goals as goal

pub returns : goal.returns
returns g c =
    let tasks = ap (λ l. map (λ (r : Running). r.task) l) c.deref.ensures.value ∙ ap (λ (s : Sitting). s.tasks) c.self.view_is in
    let is = near_is c.deref.result.now c.args.self.now.tasks c.args.place tasks c.index_near.result c.index_near.ensures.some c.index_near.ensures.none in
    record { some = is.0; none = is.1 }
