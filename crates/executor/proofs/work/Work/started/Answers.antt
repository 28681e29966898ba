use Rattle.std.proofs.Common.{◌≡◌, ◌+◌, max, length, rules, sym, ap, ◌∙◌, subst}
use Rattle.std.specs.FinMap.{entries}
use Rattle.items.specs.Map.{Items, alive}
use Rattle.states.specs.State.{StateView}
use Rattle.states.specs.Followed.{moment_of, form_over, form_after}
use Rattle.executor.specs.BatchRequest.{HaveFewSteps}
use Rattle.executor.specs.Work.{Worked, all_begun}
use Rattle.executor.proofs.DoneLemmas.{started_work}
use Rattle.executor.proofs.work.Work.started.Goals as goal

pub invariant_of-result : goal.invariant_of-result
invariant_of-result c =
    let base_is : c.in_ok-share.field-0.state ≡ c.args.base.now.state = ap (λ b. b.state) c.in_ok-share.ensures in
    let items : c.in_ok-pages.pages ≡ c.args.base.now.state.items = c.in_ok-pages.ensures ∙ c.pages.ensures.items in
    let greater : c.max.result ≡ max c.args.batch.moment c.moment.result = search rules in
    let moment : c.max.result ≡ moment_of c.args.base.now.state c.args.batch = greater ∙ ap (λ m. max c.args.batch.moment m) c.moment.ensures in
    let now : c.drop_due.new.self ≡ alive c.args.base.now.state.items (moment_of c.args.base.now.state c.args.batch) = c.in_ok-drop_due.ensures.ok ∙ (λ i. alive (items i) (moment i)) in
    let form : c.form_over-form.result ≡ form_over (alive c.args.base.now.state.items (moment_of c.args.base.now.state c.args.batch)) = c.form_over-form.ensures _ (ap (λ (m : Items). length (entries m)) (sym now) ∙ sym c.len.ensures) in (
      record {
        worked = subst (λ (b : StateView). Worked b c.args.batch c.args.ordered (record { items = c.drop_due.new.self; running = c.args.running.items; group = c.args.group })) (sym base_is)
            (started_work c.args.base.now.state c.args.batch c.args.ordered c.args.group c.drop_due.new.self c.args.running.items now c.requires.running c.requires.first);
        next = c.requires.next ∙ ap (λ (b : StateView). b.number + 1) (sym base_is);
        few = subst (λ (b : StateView). HaveFewSteps (all_begun b c.args.batch c.args.ordered)) (sym base_is) (subst HaveFewSteps c.requires.running c.requires.few);
      },
      form ∙ ap (λ (b : StateView). form_after b c.args.batch) (sym base_is),
    )
