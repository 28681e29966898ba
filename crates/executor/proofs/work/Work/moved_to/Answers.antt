use Rattle.std.proofs.Common.{sym, subst, Some}
use Rattle.std.specs.Prelude.{IsTrue}
use Rattle.executor.specs.Work.{WorkView, moved, is_group_done, IsNextGroup}
use Rattle.executor.proofs.RanLemmas.{untouched_next}
use Rattle.executor.proofs.work.Work.moved_to.Goals as goal

pub invariant_of-self : goal.invariant_of-self
invariant_of-self c =
    let done = subst (λ (v : WorkView). IsTrue (is_group_done v.progress)) (sym c.self.view_is) c.requires.done in
    let next = subst (λ (v : WorkView). IsNextGroup v.progress.running (Some v.progress.group) c.args.group) (sym c.self.view_is) c.requires.next in (
      record {
        worked = moved (record { items = c.self.inside.pages; running = c.self.inside.running.items; group = c.self.inside.group }) c.args.group c.self.invariant.0.worked done next;
        next = c.self.invariant.0.next;
        few = c.self.invariant.0.few;
      },
      c.self.invariant.1,
    )

pub returns-clause-afresh : goal.returns-clause-afresh
returns-clause-afresh c =
    let next = subst (λ (v : WorkView). IsNextGroup v.progress.running (Some v.progress.group) c.args.group) (sym c.self.view_is) c.requires.next in
    untouched_next c.self.inside.base.state c.self.inside.batch c.self.inside.ordered (record { items = c.self.inside.pages; running = c.self.inside.running.items; group = c.self.inside.group }) c.self.invariant.0.worked c.args.group next
