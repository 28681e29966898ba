use Rattle.std.proofs.Common.{◌≡◌, sym, ap, ◌∙◌, arith, subst, set}
use Rattle.std.proofs.lemmas.Option.{slice_get_within, get_or_from_slice_get}
use Rattle.item_steps.specs.Schedule.{stamped}
use Rattle.item_steps.specs.declared.step.Stamp.{Stamp}
use Rattle.executor.specs.BatchRequest.{BatchRequest}
use Rattle.executor.specs.Round.{first_place}
use Rattle.executor.specs.Work.{Progress, WorkView, StepDone, is_complete, stepped}
use Rattle.executor.specs.Through.{IsReadyAt, WorkStepAt}
use Rattle.executor.proofs.DoneLemmas.{place_within}
use Rattle.executor.proofs.ThroughLemmas.{step_at}
use Rattle.executor.proofs.work.Work.step_at.Goals as goal
use Rattle.executor.proofs.work.Work.step_at.Goals.{In_ok-step}

pub place_of-at-requires : goal.place_of-at-requires
place_of-at-requires c =
    let w : Progress = record { items = c.self.inside.pages; running = c.self.inside.running.items; group = c.self.inside.group } in
    let ready = subst (λ (v : WorkView). IsReadyAt v.progress c.args.i) (sym c.self.view_is) c.requires.ready in
    let is : c.index.result.now ≡ ready.request = c.index.ensures ∙ get_or_from_slice_get c.self.inside.running.items c.args.i ready.request c.index.result.now ready.there in
    let within = place_within c.self.inside.base.state c.self.inside.batch c.self.inside.ordered w c.self.invariant.0.worked c.args.i ready.request ready.there in
    omega (arith, c.place.ensures, ap (λ (r : BatchRequest). r.place) is, within, c.self.inside.batch.few)

pub index_mut-requires : goal.index_mut-requires
index_mut-requires c =
    let ready = subst (λ (v : WorkView). IsReadyAt v.progress c.args.i) (sym c.self.view_is) c.requires.ready in
    let within = slice_get_within c.self.inside.running.items c.args.i ready.request ready.there in
    omega (arith, within, c.self.inside.running.ok.0)

pub step-requires : goal.step-requires
step-requires c =
    let ready = subst (λ (v : WorkView). IsReadyAt v.progress c.args.i) (sym c.self.view_is) c.requires.ready in
    let is : c.index_mut.result.now ≡ ready.request = c.index_mut.ensures.value ∙ get_or_from_slice_get c.self.inside.running.items c.args.i ready.request c.index_mut.result.now ready.there in
    ap is_complete is ∙ ready.more

-- the step that was made at the index
made : (c : In_ok-step) → WorkStepAt (first_place c.self.inside.base.state c.self.inside.batch) (record { items = c.self.inside.pages; running = c.self.inside.running.items; group = c.self.inside.group }) c.args.i
    (record { items = c.step.new.pages; running = set c.self.inside.running.items c.args.i c.step.new.self; group = c.self.inside.group })
made c =
    let w : Progress = record { items = c.self.inside.pages; running = c.self.inside.running.items; group = c.self.inside.group } in
    let first : Stamp = first_place c.self.inside.base.state c.self.inside.batch in
    let ready = subst (λ (v : WorkView). IsReadyAt v.progress c.args.i) (sym c.self.view_is) c.requires.ready in
    let read : c.index.result.now ≡ ready.request = c.index.ensures ∙ get_or_from_slice_get c.self.inside.running.items c.args.i ready.request c.index.result.now ready.there in
    let is : c.index_mut.result.now ≡ ready.request = c.index_mut.ensures.value ∙ get_or_from_slice_get c.self.inside.running.items c.args.i ready.request c.index_mut.result.now ready.there in
    let place : c.place_of-at.result ≡ stamped first ready.request.place = c.place_of-at.ensures ∙ ap (stamped first) (c.place.ensures ∙ ap (λ (r : BatchRequest). r.place) read) in
    let done : StepDone c.index_mut.result.now c.self.inside.pages c.place_of-at.result c.step.new.self c.step.new.pages = c.in_ok-step.ensures.ok in
    step_at first w c.args.i ready.request c.step.new.self c.step.new.pages ready.there ready.in_group
    (subst (λ r. StepDone r c.self.inside.pages (stamped first ready.request.place) c.step.new.self c.step.new.pages) is
    (subst (λ p. StepDone c.index_mut.result.now c.self.inside.pages p c.step.new.self c.step.new.pages) place done))

pub invariant_of-self-2 : goal.invariant_of-self-2
invariant_of-self-2 c =
    let w : Progress = record { items = c.self.inside.pages; running = c.self.inside.running.items; group = c.self.inside.group } in
    let m = made c in
    (record { worked = stepped w _ m.place c.self.invariant.0.worked m.made; next = c.self.invariant.0.next; few = c.self.invariant.0.few }, c.self.invariant.1)

pub returns-clause-made : goal.returns-clause-made
returns-clause-made c = subst (λ (v : WorkView). WorkStepAt (first_place v.base v.batch) v.progress c.args.i (record { items = c.step.new.pages; running = set c.self.inside.running.items c.args.i c.step.new.self; group = c.self.inside.group })) c.self.view_is (made c)
