use Rattle.std.proofs.Common.{◌≡◌, max, rules, ap, ◌∙◌, subst, List}
use Rattle.std.specs.Prelude.{ℕ}
use Rattle.items.specs.Map.{Items, alive}
use Rattle.pages.specs.Others.{AreSameBeside}
use Rattle.pages.proofs.OtherLemmas.{more-beside}
use Rattle.sessions.specs.declared.request.Request.{Request}
use Rattle.states.specs.Followed.{moment_of}
use Rattle.executor.proofs.OtherPageLemmas.{CoversRequests}
use Rattle.executor.proofs.may_differ.may_differ.Goals as goal

pub returns-clause-due : goal.returns-clause-due
returns-clause-due c =
    let greater : c.max-moment.result ≡ max c.args.batch.now.moment c.moment.result = search rules in
    let moment : c.max-moment.result ≡ moment_of c.args.base.now.state c.args.batch.now = greater ∙ ap (λ m. max c.args.batch.now.moment m) c.moment.ensures in
    more-beside c.due_pages-pages.result c.add_requests.new.pages c.args.base.now.state.items (alive c.args.base.now.state.items (moment_of c.args.base.now.state c.args.batch.now)) c.add_requests.ensures.within
    (subst (λ (m : Items). AreSameBeside c.due_pages-pages.result m (alive m (moment_of c.args.base.now.state c.args.batch.now))) c.pages.ensures.items
    (subst (λ (t : ℕ). AreSameBeside c.due_pages-pages.result c.pages.result.now.items (alive c.pages.result.now.items t)) moment c.due_pages-pages.ensures))

pub returns-clause-covers : goal.returns-clause-covers
returns-clause-covers c = subst (λ (qs : List Request). CoversRequests c.add_requests.new.pages qs) c.as_slice.ensures.items c.add_requests.ensures.covers
