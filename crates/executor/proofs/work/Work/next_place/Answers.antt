use Rattle.std.proofs.Common.{ℕ, ◌<◌, List, sym, ap, ◌∙◌, subst}
use Rattle.std.specs.Prelude.{IfSome, IsTrue, not, ◌||◌, ◌==◌}
use Rattle.std.specs.List.{list_all}
use Rattle.executor.specs.BatchRequest.{BatchRequest}
use Rattle.executor.specs.Work.{WorkView, HasStep, HasNoStep, is_complete, is_group_done}
use Rattle.executor.specs.Through.{IsFirstLeft}
use Rattle.executor.proofs.LeftLemmas.{step_is_next, lowest_is_next, none_is_next}
use Rattle.executor.proofs.work.Work.next_place.Goals as goal

pub returns-clause-ready : goal.returns-clause-ready
returns-clause-ready c =
    let first = subst (λ (rs : List BatchRequest). IfSome c.next_place.result (λ place. IsFirstLeft rs c.self.inside.group place)) c.deref.ensures.value c.next_place.ensures.first in
    subst (λ (v : WorkView). IfSome c.next_place.result (λ place. HasStep v.progress place)) c.self.view_is
    (step_is_next (record { items = c.self.inside.pages; running = c.self.inside.running.items; group = c.self.inside.group }) c.next_place.result first)

pub returns-clause-lowest : goal.returns-clause-lowest
returns-clause-lowest c =
    let first = subst (λ (rs : List BatchRequest). IfSome c.next_place.result (λ place. IsFirstLeft rs c.self.inside.group place)) c.deref.ensures.value c.next_place.ensures.first in
    subst (λ (v : WorkView). IfSome c.next_place.result (λ place. (lower : ℕ) → lower < place → HasNoStep v.progress lower)) c.self.view_is
    (lowest_is_next c.self.inside.base.state c.self.inside.batch c.self.inside.ordered (record { items = c.self.inside.pages; running = c.self.inside.running.items; group = c.self.inside.group }) c.self.invariant.0.worked c.next_place.result first)

pub returns-clause-none : goal.returns-clause-none
returns-clause-none c =
    let first = subst (λ (rs : List BatchRequest). IfSome c.next_place.result (λ place. IsFirstLeft rs c.self.inside.group place)) c.deref.ensures.value c.next_place.ensures.first in (
      (λ none. subst (λ (v : WorkView). IsTrue (is_group_done v.progress)) c.self.view_is
          (ap (list_all (λ (r : BatchRequest). not (r.group == c.self.inside.group) || is_complete r)) (sym c.deref.ensures.value) ∙ c.next_place.ensures.none none)),
      (λ done. none_is_next (record { items = c.self.inside.pages; running = c.self.inside.running.items; group = c.self.inside.group })
          (subst (λ (v : WorkView). IsTrue (is_group_done v.progress)) (sym c.self.view_is) done) c.next_place.result first),
    )
