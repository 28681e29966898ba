use Rattle.std.proofs.Common.{◌≡◌, ◌++◌, [], ◌∷◌, map, rules, ap, ◌∙◌, sym, subst, arith, append_assoc, append-nil}
use Rattle.std.specs.List.{AllByRecursion}
use Rattle.std.proofs.lemmas.List.{map-append}
use Rattle.round.specs.Tickets.{held, view_log, both, name_of_caller}
use Rattle.round.specs.Sittings.{Sitting, Running, running_in, dealt, IsSitting, Follows}
use Rattle.round.specs.Orders.{AreOf}
use Rattle.round.proofs.Lists.{nil_from, all_push}
use Rattle.round.proofs.Ends.{of_push}
use Rattle.round.proofs.Follows.{tasks_of_running}
use Rattle.round.proofs.Seats.{running_has}
use Rattle.round.proofs.close.gather_seats.Goals as goal

pub loop-seat-preserved : goal.loop-seat-preserved
loop-seat-preserved g c =
    let i = c.loop-seat.invariant in
    let hs = i.4.0 in
    let t = c.take_in.ensures in
    let s = c.seat in
    let n = s.invariant in
    let more = t.1 ∙ ap (λ m. (both c.loop-seat.master.me.0 m.0, c.loop-seat.master.me.1)) n.view in
    let h = held (name_of_caller s.inside.caller) (view_log s.inside.token.me.0) in
    let is = s.view_is in
    let tasks = ap (λ l. map (λ (r : Running). r.task) l) n.has ∙ tasks_of_running (view_log s.inside.token.me.0) (dealt g.J.Room.callers s.inside.caller g.J.Room.group) in
    let sitting : IsSitting g.J.Room.group g.J.Room.callers (record { caller = s.inside.caller; tasks = map (λ (r : Running). r.task) s.inside.running.items; log = view_log s.inside.token.me.0 }) =
    record { few = n.few; has = tasks; follows = subst (λ l. Follows l (view_log s.inside.token.me.0)) (sym tasks) n.follows } in
    let pushed : c.push.new.self.items ≡ c.loop-seat.lists.items ++ s.inside.running ∷ [] = search rules in
    let list = λ (s : Sitting). map (running_in s.log) s.tasks in
    let mine = running_has s.inside.running.items _ _ n.has in (
      search rules,
      search rules,
      (search rules, search rules, search rules, search rules),
      append_assoc _ (c.in-Some.seat ∷ []) _ ∙ ap (λ l. c.loop-seat.yielded ++ l) (sym c.in-Some.ensures.steps.0) ∙ i.3,
      (
        hs ++ h ∷ [],
        ap (λ m. m.0.held) more ∙ ap (λ l. l ++ h ∷ []) i.4.1 ∙ append_assoc _ hs (h ∷ []),
        of_push hs c.loop-seat.yielded h c.in-Some.seat i.4.2 (ap (λ (s : Sitting). name_of_caller s.caller) is) (ap (λ (s : Sitting). s.log) is),
      ),
      all_push (IsSitting g.J.Room.group g.J.Room.callers) c.loop-seat.yielded c.in-Some.seat i.5 (subst (IsSitting g.J.Room.group g.J.Room.callers) is sitting),
      ap (λ l. map (λ v. v.items) l) pushed ∙ map-append (λ v. v.items) c.loop-seat.lists.items (s.inside.running ∷ [])
          ∙ (λ k. i.6 k ++ (mine ∙ ap list is) k ∷ [])
          ∙ sym (map-append list c.loop-seat.yielded (c.in-Some.seat ∷ [])),
    )

pub returns : goal.returns
returns g c =
    let i = c.loop-seat.invariant in
    let list = λ (s : Sitting). map (running_in s.log) s.tasks in
    let none : c.loop-seat.seat-iterator.rest.items ≡ [] = nil_from _ (let z = c.in-None.ensures.steps.0 in let ok = c.loop-seat.seat-iterator.rest.ok in omega arith) in
    let all = sym (append-nil _) ∙ ap (λ l. c.loop-seat.yielded ++ l) (sym none) ∙ i.3 in
    record {
      master = i.2;
      held = (i.4.0, i.4.1, subst (λ l. AreOf i.4.0 l) all i.4.2);
      sat = subst (λ l. AllByRecursion (IsSitting g.J.Room.group g.J.Room.callers) l) all i.5;
      running = i.6 ∙ ap (λ l. map list l) all;
    }
