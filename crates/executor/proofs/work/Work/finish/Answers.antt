use Rattle.std.proofs.Common.{◌≡◌, ℕ, Some, refl, sym, ap, ◌∙◌, subst, true, false}
use Rattle.std.specs.Prelude.{IsTrue, not, ◌||◌, ◌==◌}
use Rattle.std.specs.List.{list_all}
use Rattle.executor.specs.BatchRequest.{BatchRequest}
use Rattle.executor.specs.Ends.{MovesOn}
use Rattle.executor.specs.Work.{WorkView, IsNextGroup, is_complete, is_group_done}
use Rattle.executor.proofs.work.Work.finish.Goals as goal

pub returns-in_ok-complete-in-None-clause-goes : goal.returns-in_ok-complete-in-None-clause-goes
returns-in_ok-complete-in-None-clause-goes c =
    let done : list_all (λ r. not (r.group == c.self.inside.group) || is_complete r) c.self.inside.running.items ≡ true =
    ap (list_all (λ (r : BatchRequest). not (r.group == c.self.inside.group) || is_complete r)) (sym c.deref.ensures.value) ∙ (sym c.is_group_done.ensures ∙ c.if-not-is_group_done.false) in
    (subst (λ (v : WorkView). IsTrue (is_group_done v.progress)) c.self.view_is done, c.in-None.ensures.none refl, c.in_ok-complete-in-None.ensures.tentative)

pub returns-then-not-is_group_done-clause-afresh : goal.returns-then-not-is_group_done-clause-afresh
returns-then-not-is_group_done-clause-afresh c done =
    let inside : is_group_done (record { items = c.self.inside.pages; running = c.self.inside.running.items; group = c.self.inside.group }) ≡ true = subst (λ (v : WorkView). IsTrue (is_group_done v.progress)) (sym c.self.view_is) done in
    let not_done : list_all (λ r. not (r.group == c.self.inside.group) || is_complete r) c.self.inside.running.items ≡ false =
    ap (list_all (λ (r : BatchRequest). not (r.group == c.self.inside.group) || is_complete r)) (sym c.deref.ensures.value) ∙ (sym c.is_group_done.ensures ∙ c.if-not-is_group_done.true) in
    absurd (let clash : true ≡ false = sym inside ∙ not_done in cc clash)

pub returns-in-Some-clause-goes : goal.returns-in-Some-clause-goes
returns-in-Some-clause-goes c =
    let done : list_all (λ r. not (r.group == c.self.inside.group) || is_complete r) c.self.inside.running.items ≡ true =
    ap (list_all (λ (r : BatchRequest). not (r.group == c.self.inside.group) || is_complete r)) (sym c.deref.ensures.value) ∙ (sym c.is_group_done.ensures ∙ c.if-not-is_group_done.false) in
    let whole : is_group_done c.args.self.progress ≡ true = subst (λ (v : WorkView). IsTrue (is_group_done v.progress)) c.self.view_is done in
    let group : c.moved_to.result.progress.group ≡ c.in-Some.group = ap (λ (v : WorkView). v.progress.group) c.moved_to.ensures.moved in
    subst (λ b. MovesOn b c.args.self c.moved_to.result) (sym whole) (
      subst (λ (g : ℕ). IsNextGroup c.args.self.progress.running (Some c.args.self.progress.group) g) (sym group) c.in-Some.ensures.some,
      c.moved_to.ensures.moved ∙ ap (λ (g : ℕ). record c.args.self { progress = record { items = c.args.self.progress.items; running = c.args.self.progress.running; group = g } }) (sym group),
    )

pub returns-then-not-is_group_done-clause-goes : goal.returns-then-not-is_group_done-clause-goes
returns-then-not-is_group_done-clause-goes c =
    let not_done : list_all (λ r. not (r.group == c.self.inside.group) || is_complete r) c.self.inside.running.items ≡ false =
    ap (list_all (λ (r : BatchRequest). not (r.group == c.self.inside.group) || is_complete r)) (sym c.deref.ensures.value) ∙ (sym c.is_group_done.ensures ∙ c.if-not-is_group_done.true) in
    let whole : is_group_done c.args.self.progress ≡ false = subst (λ (v : WorkView). is_group_done v.progress ≡ false) c.self.view_is not_done in
    subst (λ b. MovesOn b c.args.self c.args.self) (sym whole) refl

pub moved_to-requires-clause-done : goal.moved_to-requires-clause-done
moved_to-requires-clause-done c =
    let done : list_all (λ r. not (r.group == c.self.inside.group) || is_complete r) c.self.inside.running.items ≡ true =
    ap (list_all (λ (r : BatchRequest). not (r.group == c.self.inside.group) || is_complete r)) (sym c.deref.ensures.value) ∙ (sym c.is_group_done.ensures ∙ c.if-not-is_group_done.false) in
    subst (λ (v : WorkView). IsTrue (is_group_done v.progress)) c.self.view_is done

pub complete-requires-clause-done : goal.complete-requires-clause-done
complete-requires-clause-done c =
    let done : list_all (λ r. not (r.group == c.self.inside.group) || is_complete r) c.self.inside.running.items ≡ true =
    ap (list_all (λ (r : BatchRequest). not (r.group == c.self.inside.group) || is_complete r)) (sym c.deref.ensures.value) ∙ (sym c.is_group_done.ensures ∙ c.if-not-is_group_done.false) in
    subst (λ (v : WorkView). IsTrue (is_group_done v.progress)) c.self.view_is done
