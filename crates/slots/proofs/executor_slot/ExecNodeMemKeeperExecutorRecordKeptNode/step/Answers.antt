use Rattle.std.proofs.Common.{List, sym, subst}
use Rattle.decrees.specs.declared.node.Letter.{Letter}
use Rattle.exec_lines.specs.declared.body.Body.{Body}
use Rattle.exec_lines.specs.Step.{fits_a_line, is_refused}
use Rattle.slots.specs.declared.slot.Slot.TheVariants.{Up}
use Rattle.slots.specs.Slots.{ExecutorSettles}
use Rattle.slots.proofs.StepLemmas.{fault_fits, refused_settles, executor_stops}
use Rattle.slots.proofs.executor_slot.ExecNodeMemKeeperExecutorRecordKeptNode.step.Goals as goal

pub returns-in-Unfit-clause-done : goal.returns-in-Unfit-clause-done
returns-in-Unfit-clause-done c =
    let unfit = c.handle.ensures.unfit (cc (c.in-Err.is, c.in-Unfit.is)) in
    let refused = c.handle.ensures.refused unfit.0 unfit.1 in
    subst (λ (letters : List (Letter Body)). ExecutorSettles (Up c.args.self.now) c.args.input (Up c.handle.new.self) letters) (sym c.new.ensures.items)
    (refused_settles c.args.self.now c.handle.new.self c.args.input c.unfit_input_changes_nothing.ensures unfit.1 refused.1)

pub returns-in_default : goal.returns-in_default
returns-in_default c =
    let e = c.args.self.now in
    record {
      done = tt;
      still_up = tt;
      stopped =
          executor_stops e c.handle.new.self c.args.input
          (fault_fits c.handle.result c.in-Err.fault (fits_a_line e.u e.id e.state c.args.input) (is_refused e.state c.args.input) c.in-Err.is (λ f r. c.handle.ensures.fits_none c.requires f r)
          (λ r. c.in_default.not-Unfit (cc (c.in-Err.is, (c.handle.ensures.refused c.requires r).0))))
          c.in-Err.ensures.old_record c.handle.ensures.failures;
    }
