-- An executor that lends its keeper.
use Rattle.std.specs.Prelude.{ℕ, List}
use Rattle.std.specs.Borrow.{Lends, MutBor, Fml}
use denote.RattleType.{RattleType}
use Rattle.keeper.specs.declared.keeper.Keeper.{Ghosts}
use Rattle.exec_node.specs.declared.node.ExecNode.{ExecNode}
use Rattle.exec_node.specs.contracts.node.ExecNode.{the_row}

-- the executor ends with the record, the failures and the mark of the keeper that was left
abbrev pub LendsExecutorKeeper : (K : RattleType) (g : Ghosts K.Denot (List ℕ)) → MutBor (ExecNode K.Denot) → MutBor K.Denot → Fml
LendsExecutorKeeper K g n r = Lends (the_row K g) K n r (λ k. record n.now { saved = g.saved k; failures = g.failed k; told = g.told k })
