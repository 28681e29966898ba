use Rattle.std.proofs.Common.{◌≡◌, List, length, map, arith, sym, ap, ◌∙◌, subst}
use Rattle.std.specs.Prelude.{vec_len}
use Rattle.std.specs.List.{list_all}
use Rattle.std.proofs.lemmas.List.{length-map}
use Rattle.item_steps.specs.declared.step.Answer.{Answer}
use Rattle.round.specs.Sittings.{Running, running_in, has_ended}
use Rattle.round.specs.Orders.{RoundResult}
use Rattle.round.proofs.Makes.{fit_some}
use Rattle.round.proofs.Ends.{group_runs}
use Rattle.round.proofs.Collects.{lists_by, length-lists_by, answers_of, tasks_of}
use Rattle.round.proofs.round.Round.close.Goals as goal
use Rattle.round.proofs.round.Round.close.Goals.{In_ok-pages, In_ok-ran}

-- each caller has its list
count : (g : _) (c : In_ok-pages g) → vec_len c.in_ok-pages.running ≡ g.J.Room.callers
count g c =
    let running = c.in_ok-pages.running in
    let lists = ap length c.in_ok-pages.ensures.requests ∙ length-lists_by (running_in c.in_ok-pages.ensures.order) g.J.Room.callers g.J.Room.group in
    let same = length-map running.items (λ v. v.items) in
    let ok = running.ok in
    omega arith

-- the requests as they ran, in the order of the group
ran : (g : _) (c : In_ok-ran g) → c.in_ok-ran.ran.items ≡ map (running_in c.in_ok-pages.ensures.order) g.J.Room.group
ran g c =
    let f = running_in c.in_ok-pages.ensures.order in
    let callers = count g (goal.at.In_ok-ran g c).In_ok-pages in
    c.in_ok-ran.ensures f g.J.Room.group (sym c.args.self.counted) (c.in_ok-pages.ensures.requests ∙ sym (ap (λ n. lists_by f n g.J.Room.group) callers))

pub gather-requires-clause-ended : goal.gather-requires-clause-ended
gather-requires-clause-ended g c = sym (c.all_ended.ensures ∙ ap (list_all has_ended) c.deref.ensures.value) ∙ c.if-not-all_ended.false

pub collect-requires-clause-some : goal.collect-requires-clause-some
collect-requires-clause-some g c =
    let some = fit_some g.J.Room.base g.J.Room.group g.J.Room.callers c.args.self.fit in
    let callers = count g c in
    omega arith

pub collect-requires-clause-dealt : goal.collect-requires-clause-dealt
collect-requires-clause-dealt g c =
    let f = running_in c.in_ok-pages.ensures.order in (
      f,
      g.J.Room.group,
      sym c.args.self.counted,
      c.in_ok-pages.ensures.requests ∙ sym (ap (λ n. lists_by f n g.J.Room.group) (count g c)),
    )

pub returns-clause-ended : goal.returns-clause-ended
returns-clause-ended g c =
    let f = running_in c.in_ok-pages.ensures.order in
    let answers = ap (map (λ (r : Running). r.answers)) (ran g (goal.at.returns-clause-ended g c).In_ok-ran) ∙ answers_of f g.J.Room.group in
    subst (λ (l : List (List Answer)). RoundResult g.J.Room.base g.J.Room.opening g.J.Room.group c.args.seats.items c.in_ok-pages.pages l) (sym answers) c.in_ok-pages.ensures.ended

pub returns-clause-runs : goal.returns-clause-runs
returns-clause-runs g c = group_runs _ _ _ _ _ _ (returns-clause-ended g c)

pub returns-clause-tasks : goal.returns-clause-tasks
returns-clause-tasks g c = ap (map (λ (r : Running). r.task)) (ran g (goal.at.returns-clause-tasks g c).In_ok-ran) ∙ tasks_of c.in_ok-pages.ensures.order g.J.Room.group
