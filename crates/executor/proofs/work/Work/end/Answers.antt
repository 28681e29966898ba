use Rattle.std.proofs.Common.{◌≡◌, refl, sym, ap, ◌∙◌, subst, Some}
use Rattle.std.specs.Prelude.{IsTrue}
use Rattle.pages.specs.Others.{AreSameBeside}
use Rattle.items.specs.Map.{alive}
use Rattle.pages.specs.Page.{Laid}
use Rattle.states.specs.Followed.{state_after, form_after, moment_of}
use Rattle.states.proofs.FollowedLemmas.{follows_of, fit_over}
use Rattle.executor.specs.Kept.{IsTentative}
use Rattle.executor.specs.Round.{Round, kept_after}
use Rattle.executor.specs.Work.{Progress, WorkView, is_group_done, IsLast, Worked, replies_of, state_made, tentative_of, TentativeView}
use Rattle.executor.proofs.DoneLemmas.{completed}
use Rattle.executor.proofs.OtherPageLemmas.{others-stay}
use Rattle.executor.proofs.ReplyLemmas.{round_kept}
use Rattle.executor.proofs.work.Work.end.Goals as goal
use Rattle.executor.proofs.work.Work.end.Goals.{After-followed_by-after}

replies : (c : After-followed_by-after) → c.args.replies.items ≡ replies_of c.self.inside.base.state c.self.inside.batch c.self.inside.running.items
replies c = c.requires.replies ∙ ap (λ (v : WorkView). replies_of v.base v.batch v.progress.running) (sym c.self.view_is)

after : (c : After-followed_by-after) → c.followed_by-after.result
    ≡ state_made c.self.inside.base.state c.self.inside.batch (record { items = c.self.inside.pages; running = c.self.inside.running.items; group = c.self.inside.group })
after c =
    let sessions = c.requires.sessions ∙ ap (λ (v : WorkView). kept_after v.base.sessions (replies_of v.base v.batch v.progress.running)) (sym c.self.view_is) in
    c.followed_by-after.ensures.followed ∙ (λ i. state_after c.self.inside.base.state c.self.inside.batch (sessions i) (c.in_ok-sealed.ensures i).items)

round : (c : After-followed_by-after) → Round c.self.inside.base.state c.self.inside.batch c.self.inside.ordered c.followed_by-after.result c.args.replies.items
round c =
    let done = subst (λ (v : WorkView). IsTrue (is_group_done v.progress)) (sym c.self.view_is) c.requires.done in
    let last = subst (λ (v : WorkView). IsLast v.progress.running (Some v.progress.group)) (sym c.self.view_is) c.requires.last in
    completed c.self.inside.base.state c.self.inside.batch c.self.inside.ordered _ c.self.invariant.0.worked done last c.followed_by-after.result c.args.replies.items (after c) (replies c)

pub invariant_of-result : goal.invariant_of-result
invariant_of-result c = (tentative, subst (AreSameBeside c.may_differ-differing.result c.self.inside.base.state.items) items others)
  where
    w : Progress
    w = record { items = c.self.inside.pages; running = c.self.inside.running.items; group = c.self.inside.group }

    others : AreSameBeside c.may_differ-differing.result c.self.inside.base.state.items c.self.inside.pages
    others = others-stay c.may_differ-differing.result c.self.inside.base.state c.self.inside.batch c.self.inside.ordered c.may_differ-differing.ensures.due c.may_differ-differing.ensures.covers w c.self.invariant.0.worked

    items : c.self.inside.pages ≡ c.followed_by-after.result.items
    items = sym (ap (λ s. s.items) c.followed_by-after.ensures.followed ∙ ap (λ (s : Laid). s.items) c.in_ok-sealed.ensures)

    tentative : IsTentative (record { before = c.self.inside.base.state; batch = c.self.inside.batch; after = c.followed_by-after.result; replies = c.args.replies.items })
    tentative = record {
      next = c.self.invariant.0.next;
      after = follows_of (form_after c.self.inside.base.state c.self.inside.batch) c.self.inside.base.state c.self.inside.batch c.followed_by-after.result c.args.sessions c.in_ok-sealed.sealed.items c.followed_by-after.ensures.followed c.followed_by-after.ensures.fit (fit_over (alive c.self.inside.base.state.items (moment_of c.self.inside.base.state c.self.inside.batch)) c.in_ok-sealed.sealed.items);
      kept = round_kept c.self.inside.base.state c.self.inside.batch c.self.inside.ordered c.followed_by-after.result c.args.replies.items (round c);
    }

pub returns-clause-tentative : goal.returns-clause-tentative
returns-clause-tentative c =
    let s = c.self.inside in
    let made = state_made s.base.state s.batch (record { items = s.pages; running = s.running.items; group = s.group }) in
    let sessions = c.requires.sessions ∙ ap (λ (v : WorkView). kept_after v.base.sessions (replies_of v.base v.batch v.progress.running)) (sym c.self.view_is) in
    let after_is : c.followed_by-after.result ≡ made = c.followed_by-after.ensures.followed ∙ (λ i. state_after s.base.state s.batch (sessions i) (c.in_ok-sealed.ensures i).items) in
    let replies_are : c.args.replies.items ≡ replies_of s.base.state s.batch s.running.items = c.requires.replies ∙ ap (λ (v : WorkView). replies_of v.base v.batch v.progress.running) (sym c.self.view_is) in
    let view : ◌≡◌ {A = TentativeView} (record { before = s.base.state; batch = s.batch; after = c.followed_by-after.result; replies = c.args.replies.items })
    (tentative_of (record { base = s.base.state; batch = s.batch; ordered = s.ordered; progress = record { items = s.pages; running = s.running.items; group = s.group } })) =
    (λ i. record { before = s.base.state; batch = s.batch; after = after_is i; replies = replies_are i }) in
    view ∙ ap tentative_of c.self.view_is

pub returns-clause-round : goal.returns-clause-round
returns-clause-round c =
    let s = c.self.inside in
    let sessions = c.requires.sessions ∙ ap (λ (v : WorkView). kept_after v.base.sessions (replies_of v.base v.batch v.progress.running)) (sym c.self.view_is) in
    let after_is : c.followed_by-after.result ≡ state_made s.base.state s.batch (record { items = s.pages; running = s.running.items; group = s.group }) = c.followed_by-after.ensures.followed ∙ (λ i. state_after s.base.state s.batch (sessions i) (c.in_ok-sealed.ensures i).items) in
    let replies_are : c.args.replies.items ≡ replies_of s.base.state s.batch s.running.items = c.requires.replies ∙ ap (λ (v : WorkView). replies_of v.base v.batch v.progress.running) (sym c.self.view_is) in
    let done = subst (λ (v : WorkView). IsTrue (is_group_done v.progress)) (sym c.self.view_is) c.requires.done in
    let last = subst (λ (v : WorkView). IsLast v.progress.running (Some v.progress.group)) (sym c.self.view_is) c.requires.last in
    subst (λ (v : WorkView). Round v.base v.batch v.ordered c.followed_by-after.result c.args.replies.items) c.self.view_is
    (completed s.base.state s.batch s.ordered _ c.self.invariant.0.worked done last c.followed_by-after.result c.args.replies.items after_is replies_are)

pub returns-clause-made : goal.returns-clause-made
returns-clause-made c = record {
  last = c.args.self.progress;
  worked = subst (λ (v : WorkView). Worked v.base v.batch v.ordered v.progress) c.self.view_is c.self.invariant.0.worked;
  done = c.requires.done;
  ends = c.requires.last;
  tentative = returns-clause-tentative c;
}
