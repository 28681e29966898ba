use Rattle.std.proofs.Common.{◌≡◌, List, sym, ap, ◌∙◌, subst, Some, length}
use Rattle.std.specs.Prelude.{IsTrue, All, slice_get}
use Rattle.item_steps.specs.Steps.{steps}
use Rattle.sessions.specs.declared.request.Request.{Request}
use Rattle.executor.specs.BatchRequest.{BatchRequest}
use Rattle.executor.specs.Round.{kept_after}
use Rattle.executor.specs.Work.{Progress, WorkView, is_group_done, IsLast, replies_to, replies_of}
use Rattle.executor.proofs.DoneLemmas.{all_answered, same_replies}
use Rattle.executor.proofs.work.Work.answers.Goals as goal
use Rattle.executor.proofs.work.Work.answers.Goals.{In_ok-replies}

pub answer_all-requires : goal.answer_all-requires
answer_all-requires c =
    let w : Progress = record { items = c.self.inside.pages; running = c.self.inside.running.items; group = c.self.inside.group } in
    let done = subst (λ (v : WorkView). IsTrue (is_group_done v.progress)) (sym c.self.view_is) c.requires.done in
    let last = subst (λ (v : WorkView). IsLast v.progress.running (Some v.progress.group)) (sym c.self.view_is) c.requires.last in
    let all = all_answered c.self.inside.base.state c.self.inside.batch c.self.inside.ordered w c.self.invariant.0.worked done last in
    subst (λ (rs : List BatchRequest). All (λ r. (request : Request) → slice_get c.as_slice-requests.result.now r.place ≡ Some request → length r.answers ≡ length (steps request.command)) rs) (sym c.deref.ensures.value)
    (subst (λ (qs : List Request). All (λ r. (request : Request) → slice_get qs r.place ≡ Some request → length r.answers ≡ length (steps request.command)) c.self.inside.running.items) (sym c.as_slice-requests.ensures.items) all)

-- the replies to the requests that ran, by place
same : (c : In_ok-replies) → replies_to c.as_slice-requests.result.now c.deref.result.now ≡ replies_of c.self.inside.base.state c.self.inside.batch c.self.inside.running.items
same c =
    (λ i. replies_to (c.as_slice-requests.ensures.items i) (c.deref.ensures.value i))
    ∙ same_replies c.self.inside.base.state c.self.inside.batch c.self.inside.ordered _ c.self.invariant.0.worked

pub returns-clause-sessions : goal.returns-clause-sessions
returns-clause-sessions c =
    let before = c.prepare.ensures ∙ (c.in_ok-sessions.ensures.cases ∙ c.hashed_sessions.ensures) in
    c.in_ok-replies.ensures.kept ∙ (λ i. kept_after (before i) (same c i)) ∙ ap (λ (v : WorkView). kept_after v.base.sessions (replies_of v.base v.batch v.progress.running)) c.self.view_is

pub returns-clause-replies : goal.returns-clause-replies
returns-clause-replies c = c.in_ok-replies.ensures.replies ∙ same c ∙ ap (λ (v : WorkView). replies_of v.base v.batch v.progress.running) c.self.view_is
