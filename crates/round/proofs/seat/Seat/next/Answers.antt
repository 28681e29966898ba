use Rattle.std.proofs.Common.{◌≡◌, false, refl, sym, ◌∙◌, inl, inr, true≢false}
use Rattle.round.specs.Sittings.{running_in, next_of, holds}
use Rattle.round.proofs.Seats.{is_held, end_is_held, not_at_end, step_of_page, no_step, seat_apart}
use Rattle.round.proofs.seat.Seat.next.Goals as goal

pub returns-in_default : goal.returns-in_default
returns-in_default g c =
    let none : holds c.args.self.now c.args.place ≡ false = c.in_default.ensures.none in
    record {
      ok = tt;
      unfit = ((λ _. none), (λ _. refl));
      not_open = ((λ e. absurd cc), (λ a. absurd (true≢false (sym (end_is_held c.args.self.now c.args.place a) ∙ none))));
      only = inl refl;
    }

pub returns-in-Some-next_page : goal.returns-in-Some-next_page
returns-in-Some-next_page g c =
    let found = c.in-Some.ensures.some in
    let held = is_held c.args.self.now.tasks c.args.place c.in-Some.index found.0 found.1 found.2 in
    let next = step_of_page (next_of (running_in c.args.self.now.log found.0)) c.in-Some-next_page.number (sym c.in-Some-next_page.is ∙ c.next_page.ensures.page found.0 found.1) in
    let apart = seat_apart g.J.Room.group g.J.Room.callers c.args.self.now.caller c.args.self.now c.requires c.next_page.ensures.its in
    record {
      ok = (found.0, next.0, found.1, found.2, next.1, next.2);
      unfit = ((λ e. absurd cc), (λ n. absurd (true≢false (sym held ∙ n))));
      not_open = ((λ e. absurd cc), (λ a. absurd (not_at_end c.args.self.now c.args.place apart c.in-Some.index found.0 next.0 found.1 found.2 next.1 a)));
      only = tt;
    }

pub returns-in-None : goal.returns-in-None
returns-in-None g c =
    let found = c.in-Some.ensures.some in
    let held = is_held c.args.self.now.tasks c.args.place c.in-Some.index found.0 found.1 found.2 in
    let end = no_step (next_of (running_in c.args.self.now.log found.0)) (sym c.in-None.is ∙ c.next_page.ensures.page found.0 found.1) in
    record {
      ok = tt;
      unfit = ((λ e. absurd cc), (λ n. absurd (true≢false (sym held ∙ n))));
      not_open = ((λ _. record { index = c.in-Some.index; task = found.0; there = found.1; its = found.2; ended = end }), (λ _. refl));
      only = inr refl;
    }
