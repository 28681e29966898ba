use Rattle.std.proofs.Common.{subst}
use Rattle.keeper.specs.Kept.{Kept}
use Rattle.slots.specs.declared.slot.Slot.TheVariants.{Up, Down}
use Rattle.slots.specs.Slots.{ExecutorReopens}
use Rattle.slots.proofs.StepLemmas.{executor_opens}
use Rattle.slots.proofs.executor_slot.ExecNodeMemKeeperExecutorRecordKeptNode.reopen.Goals as goal

pub returns-in-Ok-clause-opened : goal.returns-in-Ok-clause-opened
returns-in-Ok-clause-opened c =
    subst (λ (kept : Kept). ExecutorReopens c.args.u c.args.id (Down kept) (Up c.in-Ok.opened.0) c.in-Ok.opened.1.items) c.replace.ensures.value
    (executor_opens c.args.u c.args.id c.replace.result c.in-Ok.opened.0 c.in-Ok.opened.1.items c.open.result c.in-Ok.opened c.in-Ok.is c.open.ensures.as_told c.in-Ok.ensures.opened)
