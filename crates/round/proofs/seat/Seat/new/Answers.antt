use Rattle.std.proofs.Common.{ap, map, ◌∙◌, []}
use Rattle.round.specs.Tickets.{view_log}
use Rattle.round.specs.Sittings.{dealt}
use Rattle.round.proofs.Follows.{tasks_of_running}
use Rattle.round.proofs.seat.Seat.new.Goals as goal

pub returns : goal.returns
returns g c =
    let tasks = ap (λ l. map (λ r. r.task) l) c.requires.has ∙ tasks_of_running [] (dealt g.J.Room.callers c.args.caller g.J.Room.group) in
    let log = ap (λ m. view_log m.0) c.requires.token.1 in
    λ i. record { caller = c.args.caller; tasks = tasks i; log = log i }
