use Rattle.pages.proofs.NodeLemmas.{leaves-are}
use Rattle.pages.proofs.branch.are_leaves.Goals as goal

pub returns : goal.returns
returns c same = leaves-are c.args.digests.now c.args.nodes.now c.loop-place.place c.told-nodes c.loop-place-test.false c.told-digests c.loop-place.invariant
