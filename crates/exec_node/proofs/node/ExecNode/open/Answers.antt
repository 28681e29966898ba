use Rattle.std.proofs.Common.{Some, Ok, rules}
use Rattle.states.specs.declared.version.Version.TheVariants.{First}
use Rattle.exec_node.specs.Executor.{StoredExecutor}
use Rattle.exec_node.proofs.OpenLemmas.{renewal_stopped, renewal_is_saved}
use Rattle.exec_node.proofs.node.ExecNode.open.Goals as goal

pub returns-in-Some-Ok-First-default-clause-stopped : goal.returns-in-Some-Ok-First-default-clause-stopped
returns-in-Some-Ok-First-default-clause-stopped g c =
    let stored : StoredExecutor c.args.u c.args.id (g.K.Keeper.saved c.args.keeper) (Some (Ok (First, c.in-Some-Ok-First-default.state))) = search rules in
    renewal_stopped c.args.u c.args.id (g.K.Keeper.saved c.args.keeper) c.in-Some-Ok-First-default.state stored g.K.Keeper.failed c.args.keeper c.renew.result c.renew.ensures.stopped

pub returns-in-Some-Ok-First-default-clause-untouched : goal.returns-in-Some-Ok-First-default-clause-untouched
returns-in-Some-Ok-First-default-clause-untouched g c stays =
    let stored : StoredExecutor c.args.u c.args.id (g.K.Keeper.saved c.args.keeper) (Some (Ok (First, c.in-Some-Ok-First-default.state))) = search rules in
    renewal_is_saved c.args.u c.args.id (g.K.Keeper.saved c.args.keeper) c.in-Some-Ok-First-default.state stored c.args.keeper c.renew.result stays
