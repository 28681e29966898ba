use Rattle.std.proofs.Common.{◌≡◌, length, map, drop, rules, ap, ◌∙◌}
use Rattle.std.specs.List.{range_with_len}
use Rattle.std.proofs.lemmas.List.{take_at}
use Rattle.round.specs.Sittings.{Sitting}
use Rattle.workers.proofs.InOrder.{callers_of, same_callers}
use Rattle.workers.proofs.rounds.within.Goals as goal

pub close-requires : goal.close-requires
close-requires g c =
    let seats = c.in_ok-round.seats in
    let lent = c.as_mut_slice.result.now in
    let kept : length c.work.new.seats ≡ length lent = search rules in
    let size : length c.work.new.seats ≡ seats.len = kept ∙ c.as_mut_slice.ensures.len in
    ap (λ l. map (λ (s : Sitting). s.caller) l) (take_at c.work.new.seats (drop (length c.work.new.seats) seats.items) seats.len size)
    ∙ same_callers lent c.work.new.seats kept c.work.ensures ∙ ap (λ l. map (λ (s : Sitting). s.caller) l) (c.as_mut_slice.ensures.value ∙ c.in_ok-round.ensures.seats)
    ∙ callers_of g.J.Room.callers g.J.Room.group (range_with_len 0 g.J.Room.callers)
