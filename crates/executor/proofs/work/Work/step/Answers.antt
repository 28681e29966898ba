use Rattle.std.proofs.Common.{◌≡◌, true, Some, None, List, sym, ap, ◌∙◌, subst}
use Rattle.std.specs.Prelude.{slice_get, not, ◌&&◌, ◌==◌}
use Rattle.std.specs.List.{list_all}
use Rattle.std.proofs.lemmas.Bool.{and_parts, eqb-true, not-true}
use Rattle.std.proofs.lemmas.Option.{same_Some}
use Rattle.executor.specs.BatchRequest.{BatchRequest}
use Rattle.executor.specs.Round.{first_place}
use Rattle.executor.specs.Work.{Progress, WorkView, Worked, WorkStep, is_complete, is_ready}
use Rattle.executor.specs.Through.{IsReadyAt}
use Rattle.executor.specs.StepOf.{step_of}
use Rattle.executor.proofs.DoneLemmas.{found_ready}
use Rattle.executor.proofs.StepOfLemmas.{step_made, step_none, none_ready}
use Rattle.executor.proofs.work.Work.step.Goals as goal

pub returns-in_default-clause-does : goal.returns-in_default-clause-does
returns-in_default-clause-does c =
    let w : WorkView = record { base = c.self.inside.base.state; batch = c.self.inside.batch; ordered = c.self.inside.ordered; progress = record { items = c.self.inside.pages; running = c.self.inside.running.items; group = c.self.inside.group } } in
    let none = subst (λ (rs : List BatchRequest). list_all (λ r. not (is_ready c.self.inside.group c.args.place r)) rs ≡ true) c.deref.ensures.value (c.ready_at.ensures.none c.in_default.is) in
    subst (λ (v : WorkView). step_of v c.args.place ≡ None) c.self.view_is (step_none w c.args.place none)

pub step_at-requires : goal.step_at-requires
step_at-requires c =
    let group = c.self.inside.group in
    let w : Progress = record { items = c.self.inside.pages; running = c.self.inside.running.items; group = group } in
    let found = found_ready c.self.inside.running.items c.deref.result.now c.in-Some.i group c.args.place c.deref.ensures.value c.in-Some.ensures.there c.in-Some.ensures.ready in
    let r = found.0 in
    let parts = and_parts (r.place == c.args.place) ((r.group == group) && not (is_complete r)) found.2 in
    let more = and_parts (r.group == group) (not (is_complete r)) parts.1 in
    let ready : IsReadyAt w c.in-Some.i = record { request = r; there = found.1; in_group = eqb-true r.group group more.0; more = not-true (is_complete r) more.1 } in
    record { ready = subst (λ (v : WorkView). IsReadyAt v.progress c.in-Some.i) c.self.view_is ready }

pub returns-clause-does : goal.returns-clause-does
returns-clause-does c =
    let old : WorkView = c.args.self.now in
    let group = c.self.inside.group in
    let found = found_ready c.self.inside.running.items c.deref.result.now c.in-Some.i group c.args.place c.deref.ensures.value c.in-Some.ensures.there c.in-Some.ensures.ready in
    let r = found.0 in
    let parts = and_parts (r.place == c.args.place) ((r.group == group) && not (is_complete r)) found.2 in
    let there : slice_get old.progress.running c.in-Some.i ≡ Some r = subst (λ (v : WorkView). slice_get v.progress.running c.in-Some.i ≡ Some r) c.self.view_is found.1 in
    let m = c.in_ok-step_at.ensures.made in
    let also : slice_get old.progress.running c.in-Some.i ≡ Some m.made.request = subst (λ k. slice_get old.progress.running k ≡ Some m.made.request) m.its m.made.there in
    let one : m.made.request ≡ r = same_Some m.made.request r (sym also ∙ there) in
    let at : m.place ≡ c.args.place = sym m.made.its ∙ (ap (λ (x : BatchRequest). x.place) one ∙ eqb-true r.place c.args.place parts.0) in
    let made : WorkStep (first_place old.base old.batch) old.progress c.args.place c.step_at.new.self.progress =
    subst (λ p. WorkStep (first_place old.base old.batch) old.progress p c.step_at.new.self.progress) at m.made in
    let worked : Worked old.base old.batch old.ordered old.progress = subst (λ (v : WorkView). Worked v.base v.batch v.ordered v.progress) c.self.view_is c.self.invariant.0.worked in
    step_made old c.args.place c.step_at.new.self.progress worked made ∙ ap (λ (v : WorkView). Some v) (sym c.step_at.ensures.others)

pub returns-in_err-step_at-clause-no_step : goal.returns-in_err-step_at-clause-no_step
returns-in_err-step_at-clause-no_step c none =
    let w : WorkView = record { base = c.self.inside.base.state; batch = c.self.inside.batch; ordered = c.self.inside.ordered; progress = record { items = c.self.inside.pages; running = c.self.inside.running.items; group = c.self.inside.group } } in
    let found = found_ready c.self.inside.running.items c.deref.result.now c.in-Some.i c.self.inside.group c.args.place c.deref.ensures.value c.in-Some.ensures.there c.in-Some.ensures.ready in
    absurd (none_ready w c.args.place c.in-Some.i found.0 (subst (λ (v : WorkView). step_of v c.args.place ≡ None) (sym c.self.view_is) none) found.1 found.2)
