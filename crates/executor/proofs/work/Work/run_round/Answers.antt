use Rattle.std.proofs.Common.{sym, ap, ◌∙◌, subst}
use Rattle.executor.specs.Work.{WorkView}
use Rattle.executor.specs.Through.{later}
use Rattle.executor.specs.GroupRun.{IsUntouched}
use Rattle.executor.proofs.RanLemmas.{RoundDone, round_done}
use Rattle.executor.proofs.TaskLemmas.{tasks_fit}
use Rattle.executor.proofs.work.Work.run_round.Given.{Over}
use Rattle.executor.proofs.work.Work.run_round.Goals as goal
use Rattle.executor.proofs.work.Work.run_round.Goals.{After-put_back}

-- what the round leaves
left_by : (g : Over) (c : After-put_back g) → RoundDone c.self.inside.base.state c.self.inside.batch c.self.inside.ordered (record { items = c.self.inside.pages; running = c.self.inside.running.items; group = c.self.inside.group }) c.in_ok-pages.pages c.put_back.new.running.items
left_by g c =
    round_done c.self.inside.base.state c.self.inside.batch c.self.inside.ordered _ c.self.invariant.0.worked (subst (λ (v : WorkView). IsUntouched v.progress) (sym c.self.view_is) c.requires.afresh)
    c.place_of-first.result c.place_of-first.ensures _ c.in_ok-tasks.ensures.tasks c.in_ok-pages.pages c.in_ok-pages.ran.items c.in_ok-pages.ensures.runs c.in_ok-pages.ensures.tasks
    c.put_back.new.running.items (λ answers_to e. c.put_back.ensures c.self.inside.running.items answers_to c.in_ok-tasks.ensures.emptied e)

pub run_group-requires-clause-fits : goal.run_group-requires-clause-fits
run_group-requires-clause-fits g c lifetimes live =
    tasks_fit c.self.inside.base.state c.self.inside.batch c.self.inside.ordered _ c.self.invariant.0.worked c.self.invariant.0.few c.place_of-first.result c.place_of-first.ensures _ c.in_ok-tasks.ensures.tasks

pub invariant_of-result : goal.invariant_of-result
invariant_of-result g c = (record { worked = (left_by g c).worked; next = c.self.invariant.0.next; few = c.self.invariant.0.few }, c.self.invariant.1)

pub returns-clause-done : goal.returns-clause-done
returns-clause-done g c = (left_by g c).done

pub returns-clause-left : goal.returns-clause-left
returns-clause-left g c = (left_by g c).left ∙ ap (λ (v : WorkView). later v.progress) c.self.view_is
