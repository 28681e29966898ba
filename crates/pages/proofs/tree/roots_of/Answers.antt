use Rattle.std.proofs.Common.{[], get_or, refl, sym, ap, ◌∙◌, arith}
use Rattle.std.proofs.lemmas.List.{ext_get_or, get_or-map, get_or_default, length-map, length-set}
use Rattle.pages.specs.Tree.{branch_root}
use Rattle.pages.proofs.StateLemmas.{next-value}
use Rattle.pages.proofs.tree.roots_of.Goals as goal

pub loop-group-init : goal.loop-group-init
loop-group-init c = (refl, λ k l. absurd (omega (arith, l)))

pub loop-group-preserved : goal.loop-group-preserved
loop-group-preserved c = (
  length-set c.loop-group.roots c.loop-group.group c.root.result ∙ c.loop-group.invariant.0,
  next-value (λ k. branch_root (get_or c.args.branches.now.items k [])) c.loop-group.roots c.loop-group.group c.root.result
      (omega (arith, c.loop-group-test.true, c.loop-group.invariant.0))
      (c.root.ensures ∙ ap branch_root (c.index.ensures ∙ get_or_default c.args.branches.now.items c.loop-group.group c.index.result.now [] (omega (arith, c.loop-group-test.true, c.requires))))
      c.loop-group.invariant.1,
)

pub returns : goal.returns
returns c =
    let branches = c.args.branches.now.items in
    ext_get_or [] c.loop-group.roots _ (c.loop-group.invariant.0 ∙ sym (length-map branches branch_root ∙ c.requires))
    (λ k l. c.loop-group.invariant.1 k (omega (arith, l, c.loop-group-test.false, c.loop-group.invariant.0))
    ∙ sym (get_or-map branch_root branches k [] [] (omega (arith, l, c.loop-group.invariant.0, c.requires))))
