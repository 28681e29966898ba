use Rattle.std.proofs.Common.{sym, subst}
use Rattle.ensemble.specs.Nodes.{NodesView}
use Rattle.ensemble.specs.First.{AreAllUp}
use Rattle.ensemble.specs.Calls.{AllCollected}
use Rattle.ensemble.proofs.First.{first_is_ensemble, first_are_up, first_waits}
use Rattle.ensemble.proofs.ensemble.Ensemble.open.Goals as goal

pub invariant_of-result : goal.invariant_of-result
invariant_of-result c =
    rw (c.in_ok-nodes.ensures, c.new-2.ensures, c.new-3.ensures, c.new-4.ensures, c.new-5.ensures) (first_is_ensemble c.args.config.now)

pub returns-clause-up : goal.returns-clause-up
returns-clause-up c = subst (λ (n : NodesView). AreAllUp c.args.config.now.u c.args.config.now.clients n) (sym c.in_ok-nodes.ensures) (first_are_up c.args.config.now)

pub returns-clause-waits : goal.returns-clause-waits
returns-clause-waits c = subst (λ (n : NodesView). AllCollected n) (sym c.in_ok-nodes.ensures) (first_waits c.args.config.now)
