use Rattle.std.proofs.Common.{◌≡◌, ap, ◌∙◌, subst, map}
use Rattle.std.specs.List.{list_all}
use Rattle.round.specs.Sittings.{Sitting, running_in, is_done}
use Rattle.round.proofs.Seats.{running_has, all_done}
use Rattle.round.proofs.seat.Seat.has_ended.Goals as goal

pub returns : goal.returns
returns g c =
    let s = c.self in
    let has = subst (λ (v : Sitting). s.inside.running.items ≡ map (running_in v.log) v.tasks) s.view_is (running_has s.inside.running.items _ _ s.invariant.has) in
    let a = c.all_done.ensures in
    let d = c.deref.ensures.value in
    a ∙ ap (λ l. list_all is_done l) (d ∙ has) ∙ all_done c.args.self.now.log c.args.self.now.tasks
