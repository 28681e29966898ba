use Rattle.std.proofs.Common.{◌≡◌, Some, None, sym, ap, ◌∙◌, subst, map}
use Rattle.std.specs.Prelude.{option_map}
use Rattle.std.specs.Option.{option_copied}
use Rattle.pages.specs.Step.{step_key, step_page}
use Rattle.round.specs.Tickets.{view_log}
use Rattle.round.specs.Sittings.{Running, Sitting, running_in, next_of, dealt}
use Rattle.round.proofs.Seats.{running_has, running_at, page_of_key, no_page}
use Rattle.round.proofs.Follows.{tasks_of_running}
use Rattle.round.proofs.seat.Seat.next_page.Goals as goal

pub returns-in-Some-clause-page : goal.returns-in-Some-clause-page
returns-in-Some-clause-page g c = λ task at.
    let s = c.self in
    let has = subst (λ (v : Sitting). s.inside.running.items ≡ map (running_in v.log) v.tasks) s.view_is (running_has s.inside.running.items _ _ s.invariant.has) in
    let same = running_at s.inside.running.items c.args.self.now.log c.args.self.now.tasks has c.args.index task at c.index.result.now c.index.ensures in
    let key : Some c.in-Some.key.now ≡ option_map step_key (next_of c.index.result.now) = sym (ap option_copied c.in-Some.is) ∙ c.next_key.ensures in
    ap (λ n. Some n) c.page_of.ensures.number ∙ page_of_key (next_of c.index.result.now) c.in-Some.key.now key ∙ ap (λ r. option_map step_page (next_of r)) same

pub returns-in-Some-clause-its : goal.returns-in-Some-clause-its
returns-in-Some-clause-its g c =
    let s = c.self in
    sym (ap (λ (v : Sitting). v.tasks) s.view_is) ∙ ap (λ l. map (λ (r : Running). r.task) l) s.invariant.has
    ∙ tasks_of_running (view_log s.inside.token.me.0) (dealt g.J.Room.callers s.inside.caller g.J.Room.group) ∙ ap (λ (v : Sitting). dealt g.J.Room.callers v.caller g.J.Room.group) s.view_is

pub returns-in-None-clause-page : goal.returns-in-None-clause-page
returns-in-None-clause-page g c = λ task at.
    let s = c.self in
    let has = subst (λ (v : Sitting). s.inside.running.items ≡ map (running_in v.log) v.tasks) s.view_is (running_has s.inside.running.items _ _ s.invariant.has) in
    let same = running_at s.inside.running.items c.args.self.now.log c.args.self.now.tasks has c.args.index task at c.index.result.now c.index.ensures in
    let key : None ≡ option_map step_key (next_of c.index.result.now) = sym (ap option_copied c.in-None.is) ∙ c.next_key.ensures in
    no_page (next_of c.index.result.now) key ∙ ap (λ r. option_map step_page (next_of r)) same

pub returns-in-None-clause-its : goal.returns-in-None-clause-its
returns-in-None-clause-its g c =
    let s = c.self in
    sym (ap (λ (v : Sitting). v.tasks) s.view_is) ∙ ap (λ l. map (λ (r : Running). r.task) l) s.invariant.has
    ∙ tasks_of_running (view_log s.inside.token.me.0) (dealt g.J.Room.callers s.inside.caller g.J.Room.group) ∙ ap (λ (v : Sitting). dealt g.J.Room.callers v.caller g.J.Room.group) s.view_is
