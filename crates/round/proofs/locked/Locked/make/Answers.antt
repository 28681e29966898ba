use Rattle.std.proofs.Common.{◌≡◌, ◌+◌, ◌++◌, ◌∷◌, [], List, map, rules, refl, sym, ap, ◌∙◌, subst}
use Rattle.std.specs.Prelude.{slice_get, Some}
use Rattle.item_steps.specs.Effect.{effect}
use Rattle.item_steps.specs.Schedule.{stamped}
use Rattle.item_steps.specs.declared.group.Task.{Task}
use Rattle.pages.specs.Page.{page_count, page_items}
use Rattle.pages.specs.Step.{step_page}
use Rattle.round.specs.declared.rule.Entry.{Entry}
use Rattle.round.specs.Tickets.{view_log, name_of_caller}
use Rattle.round.specs.Histories.{IsRoundHistory}
use Rattle.round.specs.Sittings.{Running, Sitting, running_in, next_of, is_done, answered_at, dealt, task_fits, Follows}
use Rattle.round.proofs.Lists.{same_element}
use Rattle.round.proofs.Histories.{history_push}
use Rattle.round.proofs.Seats.{running_has, running_at}
use Rattle.round.proofs.Follows.{tasks_of_running}
use Rattle.round.proofs.Makes.{is_left, fit_dealt, made_last, seat_after}
use Rattle.round.proofs.locked.Locked.make.Goals as goal

pub make-requires-clause-left : goal.make-requires-clause-left
make-requires-clause-left g c =
    let s = c.seat in
    let h = c.requires.here in
    let has = subst (λ (v : Sitting). s.inside.running.items ≡ map (running_in v.log) v.tasks) s.view_is (running_has s.inside.running.items _ _ s.invariant.has) in
    let same = running_at s.inside.running.items c.args.seat.now.log c.args.seat.now.tasks has c.args.index h.0 h.2 c.index_mut-running.result.now c.index_mut-running.ensures.value in
    ap is_done same ∙ is_left (running_in c.args.seat.now.log h.0) h.1 h.3

pub make-requires-clause-fits : goal.make-requires-clause-fits
make-requires-clause-fits g c =
    let s = c.seat in
    let h = c.requires.here in
    let has = subst (λ (v : Sitting). s.inside.running.items ≡ map (running_in v.log) v.tasks) s.view_is (running_has s.inside.running.items _ _ s.invariant.has) in
    let same = running_at s.inside.running.items c.args.seat.now.log c.args.seat.now.tasks has c.args.index h.0 h.2 c.index_mut-running.result.now c.index_mut-running.ensures.value in
    let tasks = sym (ap (λ (v : Sitting). v.tasks) s.view_is) ∙ ap (λ l. map (λ (r : Running). r.task) l) s.invariant.has ∙ tasks_of_running (view_log s.inside.token.me.0) (dealt g.J.Room.callers s.inside.caller g.J.Room.group) in
    (λ k. task_fits (c.requires.base k) (same k).task) ∙ fit_dealt g.J.Room.base g.J.Room.group g.J.Room.callers c.requires.fit s.inside.caller c.args.index h.0 (ap (λ (l : List Task). slice_get l c.args.index) (sym tasks) ∙ h.2)

pub last-requires-clause-steps : goal.last-requires-clause-steps
last-requires-clause-steps g c =
    let ok = c.in_ok-make.ensures.ok in
    (made_last c.index_mut-running.result.now c.make.new.self ok.0 (effect c.self.inside.page.items ok.0 (stamped c.args.base c.index_mut-running.result.now.task.place)).1 ok.1 ok.3).0

pub invariant_of-self-2 : goal.invariant_of-self-2
invariant_of-self-2 g c =
    let s = c.seat in
    let h = c.requires.here in
    let old = c.index_mut-running.result.now in
    let has = subst (λ (v : Sitting). s.inside.running.items ≡ map (running_in v.log) v.tasks) s.view_is (running_has s.inside.running.items _ _ s.invariant.has) in
    let same = running_at s.inside.running.items c.args.seat.now.log c.args.seat.now.tasks has c.args.index h.0 h.2 old c.index_mut-running.ensures.value in
    let ok = c.in_ok-make.ensures.ok in
    let last = made_last old c.make.new.self ok.0 (effect c.self.inside.page.items ok.0 (stamped c.args.base old.task.place)).1 ok.1 ok.3 in
    let step : c.last.result.0.now ≡ h.1 = last.1 c.last.result.0.now c.last.ensures.step ∙ same_element ok.0 h.1 (sym ok.1 ∙ ap next_of same ∙ h.3) in
    let place : c.place-place.result ≡ h.0.place = c.place-place.ensures ∙ ap (λ (r : Running). r.task.place) ok.3 ∙ ap (λ (r : Running). r.task.place) same in
    let e : Entry = record { page = c.self.inside.number; caller = page_count + s.inside.caller; place = c.place-place.result; step = c.last.result.0.now; answer = c.last.result.1.now } in
    let i = c.self.invariant in
    let page = c.self.inside.page.items in
    let log = view_log c.self.inside.token.me.0 in
    let on : step_page c.last.result.0.now ≡ c.self.inside.number = ap step_page step ∙ h.4 ∙ sym (ap (λ v. v.0) c.self.view_is) in
    let made : ok.0 ≡ c.last.result.0.now = sym (last.1 c.last.result.0.now c.last.ensures.step) in
    let at : old.task.place ≡ c.place-place.result = ap (λ (r : Running). r.task.place) same ∙ sym place in
    let items = ok.2 ∙ (λ k. (effect page (made k) (stamped (c.requires.base k) (at k))).0) in
    let answer = last.2 c.last.result.1.now c.last.ensures.answer ∙ (λ k. (effect page (made k) (stamped (c.requires.base k) (at k))).1) in
    let grown = sym (ap (λ m. view_log m.0) c.draw.ensures.page) in (
      c.draw.ensures.tokens.0 ∙ i.0,
      search rules,
      i.2,
      subst (λ (l : List Entry). IsRoundHistory g.J.Room.base c.self.inside.number (page_items g.J.Room.opening c.self.inside.number) l c.make.new.page.items) grown
          (history_push g.J.Room.base c.self.inside.number (page_items g.J.Room.opening c.self.inside.number) log page c.make.new.page.items e refl on items answer i.3),
    )

pub invariant_of-seat-2 : goal.invariant_of-seat-2
invariant_of-seat-2 g c =
    let s = c.seat in
    let h = c.requires.here in
    let old = c.index_mut-running.result.now in
    let has = subst (λ (v : Sitting). s.inside.running.items ≡ map (running_in v.log) v.tasks) s.view_is (running_has s.inside.running.items _ _ s.invariant.has) in
    let same = running_at s.inside.running.items c.args.seat.now.log c.args.seat.now.tasks has c.args.index h.0 h.2 old c.index_mut-running.ensures.value in
    let ok = c.in_ok-make.ensures.ok in
    let last = made_last old c.make.new.self ok.0 (effect c.self.inside.page.items ok.0 (stamped c.args.base old.task.place)).1 ok.1 ok.3 in
    let step : c.last.result.0.now ≡ h.1 = last.1 c.last.result.0.now c.last.ensures.step ∙ same_element ok.0 h.1 (sym ok.1 ∙ ap next_of same ∙ h.3) in
    let place : c.place-place.result ≡ h.0.place = c.place-place.ensures ∙ ap (λ (r : Running). r.task.place) ok.3 ∙ ap (λ (r : Running). r.task.place) same in
    let e : Entry = record { page = c.self.inside.number; caller = page_count + s.inside.caller; place = c.place-place.result; step = c.last.result.0.now; answer = c.last.result.1.now } in
    let log = view_log s.inside.token.me.0 in
    let is_log : log ≡ c.args.seat.now.log = ap (λ (v : Sitting). v.log) s.view_is in
    let dealt_is = ap (λ l. map (λ (r : Running). r.task) l) s.invariant.has ∙ tasks_of_running log (dealt g.J.Room.callers s.inside.caller g.J.Room.group) in
    let tasks = sym (ap (λ (v : Sitting). v.tasks) s.view_is) ∙ dealt_is in
    let there = ap (λ (l : List Task). slice_get l c.args.index) (sym tasks) ∙ h.2 in
    let next = ap (λ l. next_of (running_in l h.0)) is_log ∙ h.3 ∙ ap (λ x. Some x) (sym step) in
    let task_is = ap (λ (r : Running). r.task) same in
    let answer = last.2 c.last.result.1.now c.last.ensures.answer in
    let new = ok.3 ∙ (λ k. record { task = task_is k; answers = (ap (λ (r : Running). r.answers) same ∙ ap (λ l. answered_at h.0.place l) (sym is_log)) k ++ sym answer k ∷ [] }) in
    let after = seat_after g.J.Room.base g.J.Room.group g.J.Room.callers s.inside.caller c.requires.fit s.inside.running.items log s.invariant.has s.invariant.follows c.args.index h.0 there e place next c.make.new.self new in
    let grown = sym (ap (λ m. view_log m.0) c.draw.ensures.caller) in
    record {
      its_table = c.draw.ensures.tokens.1 ∙ s.invariant.its_table;
      view = search rules;
      few = s.invariant.few;
      has = after.0 ∙ ap (λ l. map (running_in l) (dealt g.J.Room.callers s.inside.caller g.J.Room.group)) grown;
      follows = subst (λ l. Follows (dealt g.J.Room.callers s.inside.caller g.J.Room.group) l) grown after.1;
    }

pub returns-clause-made : goal.returns-clause-made
returns-clause-made g c = λ task at.
    let s = c.seat in
    let h = c.requires.here in
    let old = c.index_mut-running.result.now in
    let has = subst (λ (v : Sitting). s.inside.running.items ≡ map (running_in v.log) v.tasks) s.view_is (running_has s.inside.running.items _ _ s.invariant.has) in
    let same = running_at s.inside.running.items c.args.seat.now.log c.args.seat.now.tasks has c.args.index h.0 h.2 old c.index_mut-running.ensures.value in
    let ok = c.in_ok-make.ensures.ok in
    let last = made_last old c.make.new.self ok.0 (effect c.self.inside.page.items ok.0 (stamped c.args.base old.task.place)).1 ok.1 ok.3 in
    let step : c.last.result.0.now ≡ h.1 = last.1 c.last.result.0.now c.last.ensures.step ∙ same_element ok.0 h.1 (sym ok.1 ∙ ap next_of same ∙ h.3) in
    let place : c.place-place.result ≡ h.0.place = c.place-place.ensures ∙ ap (λ (r : Running). r.task.place) ok.3 ∙ ap (λ (r : Running). r.task.place) same in
    let e : Entry = record { page = c.self.inside.number; caller = page_count + s.inside.caller; place = c.place-place.result; step = c.last.result.0.now; answer = c.last.result.1.now } in
    let log = view_log s.inside.token.me.0 in
    let is_log : log ≡ c.args.seat.now.log = ap (λ (v : Sitting). v.log) s.view_is in
    let dealt_is = ap (λ l. map (λ (r : Running). r.task) l) s.invariant.has ∙ tasks_of_running log (dealt g.J.Room.callers s.inside.caller g.J.Room.group) in
    let tasks = sym (ap (λ (v : Sitting). v.tasks) s.view_is) ∙ dealt_is in
    let there = ap (λ (l : List Task). slice_get l c.args.index) (sym tasks) ∙ h.2 in
    let next = ap (λ l. next_of (running_in l h.0)) is_log ∙ h.3 ∙ ap (λ x. Some x) (sym step) in
    let task_is = ap (λ (r : Running). r.task) same in
    let answer = last.2 c.last.result.1.now c.last.ensures.answer in
    let new = ok.3 ∙ (λ k. record { task = task_is k; answers = (ap (λ (r : Running). r.answers) same ∙ ap (λ l. answered_at h.0.place l) (sym is_log)) k ++ sym answer k ∷ [] }) in
    let after = seat_after g.J.Room.base g.J.Room.group g.J.Room.callers s.inside.caller c.requires.fit s.inside.running.items log s.invariant.has s.invariant.follows c.args.index h.0 there e place next c.make.new.self new in
    let grown = sym (ap (λ m. view_log m.0) c.draw.ensures.caller) in
    let mine : h.0 ≡ task = same_element h.0 task (sym h.2 ∙ at) in
    let on : c.self.inside.number ≡ step_page c.last.result.0.now = sym (ap step_page step ∙ h.4 ∙ sym (ap (λ v. v.0) c.self.view_is)) in
    record {
      index = c.args.index;
      task = task;
      entry = e;
      there = at;
      its = refl;
      next = subst (λ (t : Task). next_of (running_in c.args.seat.now.log t) ≡ Some c.last.result.0.now) mine (h.3 ∙ ap (λ x. Some x) (sym step));
      at = place ∙ ap (λ (t : Task). t.place) mine;
      by = ap (λ (v : Sitting). name_of_caller v.caller) s.view_is;
      on = on;
      noted = λ k. record { caller = (s.view_is k).caller; tasks = (after.2 ∙ sym dealt_is ∙ ap (λ (v : Sitting). v.tasks) s.view_is) k; log = (sym grown ∙ ap (λ l. l ++ e ∷ []) is_log) k };
    }
