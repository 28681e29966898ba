use Rattle.std.proofs.Common.{sym, ◌∙◌, subst}
use Rattle.exec_node.specs.Executor.{ExecutorView}
use Rattle.slots.specs.Slot.{Slot}
use Rattle.slots.specs.declared.slot.Slot.TheVariants.{Up}
use Rattle.slots.specs.Runs.{ExecutorRuns}
use Rattle.slots.proofs.RunLemmas.{executor_runs}
use Rattle.slots.proofs.running.NodeSlot+KeptExecutor.run.Goals as goal

pub returns-in-Some : goal.returns-in-Some
returns-in-Some g c =
    subst (λ (s : Slot ExecutorView). ExecutorRuns s (Up c.ran.new.node) c.in-Some.letters.items) (sym c.in-Up.is ∙ c.self.view_is)
    (executor_runs c.in-Up.node c.ran.new.node c.in-Some.letters.items c.in-Some.ensures.ran)
