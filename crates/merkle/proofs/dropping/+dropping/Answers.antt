use Rattle.std.proofs.Common.{rules, sym, ap, ◌∙◌, subst}
use Rattle.merkle.specs.declared.fork.Tree.{Tree}
use Rattle.merkle.specs.declared.fork.Fork.{Fork as ForkOf}
use Rattle.merkle.specs.Shape.{IsTrie}
use Rattle.merkle.specs.Tree.{shape, fork_shape, IsCached, IsForkCached}
use Rattle.merkle.specs.Alive.{is_above, IsPartOf}
use Rattle.merkle.proofs.AliveLemmas.{all_alive, less_of, fork_stays, small_left, both_none, some_weaker}
use Rattle.merkle.proofs.TreeLemmas.{same_shape, same_cached, of_err}
use Rattle.merkle.proofs.dropping.+dropping.Goals as goal

pub drop_at-returns-then-is_above-clause-ok : goal.drop_at-returns-then-is_above-clause-ok
drop_at-returns-then-is_above-clause-ok g t c =
    all_alive g.V.TreeValue.due c.args.moment (shape c.args.tree.now) (ap (is_above c.args.moment) (sym c.requires.due) ∙ (sym c.is_above.ensures ∙ c.if-is_above.true))

pub drop_at-returns-in_err-make_mut-in-Fork-clause-cached : goal.drop_at-returns-in_err-make_mut-in-Fork-clause-cached
drop_at-returns-in_err-make_mut-in-Fork-clause-cached g t c =
    let K = g.row.K.Denot in
    let V = g.row.V.Denot in
    let hash = g.K.TreeKey.hash in
    let text = g.V.TreeValue.text in
    let due = g.V.TreeValue.due in
    let old : ForkOf K V = c.in-Fork.fork.value in
    let new : ForkOf K V = c.make_mut.follows.lender-at-none.value in
    let kept : IsForkCached hash text due old = subst (λ (tree : Tree K V). IsCached hash text due tree) c.in-Fork.is c.requires.cached in
    same_cached hash text due old new (of_err _ _ c.in_err-make_mut-in-Fork.was c.make_mut.follows.holds-at-none) kept

pub drop_at-drop_fork-small-requires : goal.drop_at-drop_fork-small-requires
drop_at-drop_fork-small-requires g t c κs within =
    let K = g.row.K.Denot in
    let V = g.row.V.Denot in
    let hash = g.K.TreeKey.hash in
    let text = g.V.TreeValue.text in
    let due = g.V.TreeValue.due in
    let old : ForkOf K V = c.in-Fork.fork.value in
    let new : ForkOf K V = c.in_ok-make_mut-in-Fork.field-0.now in
    let kept : IsForkCached hash text due old = subst (λ (tree : Tree K V). IsCached hash text due tree) c.in-Fork.is c.requires.cached in
    let was : IsTrie g.K.TreeKey.bit g.K.TreeKey.BITS c.args.depth (fork_shape old) = subst (λ (tree : Tree K V). IsTrie g.K.TreeKey.bit g.K.TreeKey.BITS c.args.depth (shape tree)) c.in-Fork.is c.requires.trie in
    let is = c.in_ok-make_mut-in-Fork.ensures.value in
    let cached : IsForkCached hash text due new = same_cached hash text due old new is kept in
    let trie : IsTrie g.K.TreeKey.bit g.K.TreeKey.BITS c.args.depth (fork_shape new) = subst (IsTrie g.K.TreeKey.bit g.K.TreeKey.BITS c.args.depth) (sym (same_shape old new is)) was in
    search rules

pub drop_below-returns-clause-part : goal.drop_below-returns-clause-part
drop_below-returns-clause-part g t c =
    less_of g.V.TreeValue.due c.args.moment g.K.TreeKey.bit g.K.TreeKey.BITS c.args.depth (shape c.args.fork.now.left) (shape c.args.fork.now.right) (shape c.drop_at-left.new.tree) (shape c.drop_at-right.new.tree) c.requires.trie c.drop_at-left.ensures.part c.drop_at-right.ensures.part

pub drop_below-returns-in_err-left-clause-part : goal.drop_below-returns-in_err-left-clause-part
drop_below-returns-in_err-left-clause-part g t c =
    less_of g.V.TreeValue.due c.args.moment g.K.TreeKey.bit g.K.TreeKey.BITS c.args.depth (shape c.args.fork.now.left) (shape c.args.fork.now.right) (shape c.drop_at-left.new.tree) (shape c.drop_at-right.new.tree) c.requires.trie c.drop_at-left.ensures.part c.drop_at-right.ensures.part

pub drop_fork-returns-clause-none : goal.drop_fork-returns-clause-none
drop_fork-returns-clause-none g t c =
    let left = shape c.drop_below-done.new.fork.left in
    let right = shape c.drop_below-done.new.fork.right in
    both_none c.take_small.result (λ two same.
    subst (λ f. IsPartOf g.V.TreeValue.due g.K.TreeKey.bit g.K.TreeKey.BITS c.args.depth c.args.moment (fork_shape c.args.fork.now) (fork_shape f)) (sym same)
    (fork_stays g.V.TreeValue.due c.args.moment g.K.TreeKey.bit g.K.TreeKey.BITS c.args.depth (fork_shape c.args.fork.now) left right c.drop_below-done.ensures.part two)) c.take_small.ensures.none c.take_small.ensures.same

pub drop_fork-returns-clause-some : goal.drop_fork-returns-clause-some
drop_fork-returns-clause-some g t c =
    let left = shape c.drop_below-done.new.fork.left in
    let right = shape c.drop_below-done.new.fork.right in
    some_weaker _ _ c.take_small.result (λ small is.
    small_left g.V.TreeValue.due c.args.moment g.K.TreeKey.bit g.K.TreeKey.BITS c.args.depth (fork_shape c.args.fork.now) left right (shape small) c.drop_below-done.ensures.part is.same is.few) c.take_small.ensures.some
