use Rattle.std.proofs.Common.{◌≡◌, refl, sym, ap, ◌∙◌, subst, Some, None, List, []}
use Rattle.std.specs.Prelude.{IsTrue}
use Rattle.items.specs.Map.{alive}
use Rattle.executor.specs.BatchRequest.{BatchRequest}
use Rattle.states.specs.Followed.{moment_of}
use Rattle.executor.specs.Work.{WorkView, is_group_done, IsLast, all_begun, tentative_of}
use Rattle.executor.proofs.DoneLemmas.{none_run, none_done, none_last}
use Rattle.executor.specs.Round.{Round}
use Rattle.executor.specs.Through.{ComesOfWork}
use Rattle.executor.specs.GroupRun.{IsUntouched}
use Rattle.executor.proofs.RanLemmas.{untouched_started}
use Rattle.executor.proofs.work.Work.begin.Goals as goal
use Rattle.executor.proofs.work.Work.begin.Goals.{In-None}

-- if there is no first group no request runs
none : (c : In-None) → all_begun c.args.base.now.state c.args.batch c.args.ordered ≡ []
none c =
    sym (c.in_ok-running.ensures.begun c.args.base.now.state (sym c.sessions.ensures.sessions))
    ∙ none_run c.in_ok-running.running.items (subst (λ (rs : List BatchRequest). IsLast rs None) c.deref.ensures.value (c.in-None.ensures.none refl))

pub complete-requires-clause-done : goal.complete-requires-clause-done
complete-requires-clause-done c =
    subst (λ (v : WorkView). IsTrue (is_group_done v.progress)) (sym c.in_ok-work-in-None.ensures)
    (none_done _ (alive c.args.base.now.state.items (moment_of c.args.base.now.state c.args.batch)) (none (goal.at.complete-requires-clause-done c).In-None))

pub complete-requires-clause-last : goal.complete-requires-clause-last
complete-requires-clause-last c =
    subst (λ (v : WorkView). IsLast v.progress.running (Some v.progress.group)) (sym c.in_ok-work-in-None.ensures) (none_last _ (none (goal.at.complete-requires-clause-last c).In-None))

pub returns-in_ok-complete-in-None-clause-begins : goal.returns-in_ok-complete-in-None-clause-begins
returns-in_ok-complete-in-None-clause-begins c =
    (none (goal.at.returns-in_ok-complete-in-None-clause-begins c).In-None, c.in_ok-complete-in-None.ensures.tentative ∙ ap tentative_of c.in_ok-work-in-None.ensures)

pub returns-in_ok-started-in-Some-clause-afresh : goal.returns-in_ok-started-in-Some-clause-afresh
returns-in_ok-started-in-Some-clause-afresh c =
    subst (λ (v : WorkView). IsUntouched v.progress) (sym c.in_ok-started-in-Some.ensures) (untouched_started c.args.base.now.state c.args.batch c.args.ordered c.in-Some.group)

pub returns-in_ok-complete-in-None-clause-round : goal.returns-in_ok-complete-in-None-clause-round
returns-in_ok-complete-in-None-clause-round c =
    subst (λ (v : WorkView). Round v.base v.batch v.ordered c.in_ok-complete-in-None.field-0.after c.in_ok-complete-in-None.field-0.replies) c.in_ok-work-in-None.ensures c.in_ok-complete-in-None.ensures.round

pub returns-in_ok-complete-in-None-clause-made : goal.returns-in_ok-complete-in-None-clause-made
returns-in_ok-complete-in-None-clause-made c =
    subst (λ (v : WorkView). ComesOfWork v.base v.batch v.ordered c.in_ok-complete-in-None.field-0) c.in_ok-work-in-None.ensures c.in_ok-complete-in-None.ensures.made
