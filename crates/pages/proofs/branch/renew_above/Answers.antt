use Rattle.std.proofs.Common.{◌≡◌, ◌+◌, ◌-◌, refl, arith, subst}
use Rattle.pages.proofs.NodeLemmas.{IsRenewed, renewed-made, renewed-same}
use Rattle.pages.proofs.branch.renew_above.Goals as goal

pub loop-node-init : goal.loop-node-init
loop-node-init c = record { count = c.told-nodes; marks = c.told-changed; kept = refl; done = λ j low from high. absurd (omega (arith, from, high)); left = c.requires }

pub loop-node-preserved-in-loop-node : goal.loop-node-preserved-in-loop-node
loop-node-preserved-in-loop-node c =
    let again : c.loop-node.node ≡ c.loop-node.node - 1 + 1 = omega (arith, c.loop-node-test.true) in
    renewed-made c.args.nodes.now c.loop-node.nodes c.loop-node.changed (c.loop-node.node - 1)
    (subst (IsRenewed c.args.nodes.now c.loop-node.nodes c.loop-node.changed) again c.loop-node.invariant)
    (omega (arith, c.loop-node-test.true)) (omega (arith, c.loop-node-test.true, c.loop-node.auto.node)) c.inner_digest.result c.inner_digest.ensures

pub loop-node-preserved : goal.loop-node-preserved
loop-node-preserved c =
    let again : c.loop-node.node ≡ c.loop-node.node - 1 + 1 = omega (arith, c.loop-node-test.true) in
    renewed-same c.args.nodes.now c.loop-node.nodes c.loop-node.changed (c.loop-node.node - 1)
    (subst (IsRenewed c.args.nodes.now c.loop-node.nodes c.loop-node.changed) again c.loop-node.invariant)
    (omega (arith, c.loop-node-test.true)) (omega (arith, c.loop-node-test.true, c.loop-node.auto.node)) c.if-changed-node.false c.if-changed-node-2.false

pub returns-clause-tree : goal.returns-clause-tree
returns-clause-tree c = record { count = c.loop-node.invariant.count; above = λ k some few. c.loop-node.invariant.done k some (omega (arith, some, c.loop-node-test.false)) few }
