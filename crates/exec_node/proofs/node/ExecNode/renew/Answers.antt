use Rattle.std.proofs.Common.{true}
use Rattle.exec_node.proofs.OpenLemmas.{renews}
use Rattle.exec_node.proofs.node.ExecNode.renew.Goals as goal

pub returns-in-Ok-clause-opened : goal.returns-in-Ok-clause-opened
returns-in-Ok-clause-opened g c =
    renews c.args.u c.args.id (g.K.Keeper.saved c.args.keeper) (g.K.Keeper.failed c.args.keeper) (g.K.Keeper.told c.args.keeper) c.args.state _ c.in-Ok.letters.items
    c.requires.stored
    (λ i. record {
      id = c.args.id;
      u = c.args.u;
      state = c.args.state;
      up = true;
      saved = c.in-Ok.ensures.tries.kept i;
      failures = c.in-Ok.ensures.tries.none_failed i;
      told = c.in-Ok.ensures.tries.same_word i;
    })
    c.in-Ok.ensures.letters
