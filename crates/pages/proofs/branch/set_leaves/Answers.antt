use Rattle.std.proofs.Common.{◌*◌, false, refl, arith}
use Rattle.std.proofs.lemmas.List.{get_or-replicate}
use Rattle.pages.specs.declared.group.TheConstants.{GROUP_PAGES}
use Rattle.pages.proofs.NodeLemmas.{leaves-are}
use Rattle.pages.proofs.branch.set_leaves.Goals as goal

pub loop-place-init : goal.loop-place-init
loop-place-init c = record {
  count = c.told-nodes;
  marks = refl;
  leaves_are = λ k few. absurd (omega (arith, few));
  inner = λ k few. get_or-replicate (2 * GROUP_PAGES) k false false (omega (arith, few));
  same = λ k not. refl;
}

pub returns-clause-leaves : goal.returns-clause-leaves
returns-clause-leaves c =
    leaves-are c.args.digests.now c.loop-place.nodes c.loop-place.place c.loop-place.invariant.count c.loop-place-test.false c.told-digests c.loop-place.invariant.leaves_are
