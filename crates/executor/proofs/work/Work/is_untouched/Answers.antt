use Rattle.std.proofs.Common.{sym, ap, ◌∙◌}
use Rattle.std.specs.Prelude.{length, ◌==◌}
use Rattle.std.specs.List.{list_all}
use Rattle.executor.specs.BatchRequest.{BatchRequest}
use Rattle.executor.specs.Work.{WorkView}
use Rattle.executor.specs.GroupRun.{is_untouched}
use Rattle.executor.proofs.LeftLemmas.{untouched_in_group}
use Rattle.executor.proofs.work.Work.is_untouched.Goals as goal

pub returns-clause-none : goal.returns-clause-none
returns-clause-none c =
    c.is_untouched.ensures ∙ ap (list_all (λ (r : BatchRequest). length r.answers == 0)) c.deref.ensures.value ∙ ap (λ (v : WorkView). is_untouched v.progress) c.self.view_is

pub returns-clause-in_group : goal.returns-clause-in_group
returns-clause-in_group c is =
    untouched_in_group c.args.self.now.progress (sym (c.is_untouched.ensures ∙ ap (list_all (λ (r : BatchRequest). length r.answers == 0)) c.deref.ensures.value ∙ ap (λ (v : WorkView). is_untouched v.progress) c.self.view_is) ∙ is)
