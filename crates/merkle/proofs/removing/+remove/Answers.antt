use Rattle.std.proofs.Common.{rules, sym, ◌∙◌, subst}
use Rattle.std.proofs.lemmas.Result.{on_ok_weaker}
use Rattle.merkle.specs.declared.fork.Tree.{Tree}
use Rattle.merkle.specs.declared.fork.Fork.{Fork as ForkOf}
use Rattle.merkle.specs.Shape.{IsTrie}
use Rattle.merkle.specs.Tree.{shape, fork_shape, IsCached, IsForkCached}
use Rattle.merkle.proofs.RemoveLemmas.{thin_left, thin_right}
use Rattle.merkle.proofs.TreeLemmas.{same_shape, same_cached, of_err}
use Rattle.merkle.proofs.removing.+remove.Goals as goal

pub remove_from-returns-in_err-make_mut-in-Fork-clause-cached : goal.remove_from-returns-in_err-make_mut-in-Fork-clause-cached
remove_from-returns-in_err-make_mut-in-Fork-clause-cached g t c =
    let K = g.row.K.Denot in
    let V = g.row.V.Denot in
    let hash = g.K.TreeKey.hash in
    let text = g.V.TreeValue.text in let due = g.V.TreeValue.due in
    let old : ForkOf K V = c.in-Fork.fork.value in
    let new : ForkOf K V = c.make_mut.follows.lender-at-none.value in
    let kept : IsForkCached hash text due old = subst (λ (tree : Tree K V). IsCached hash text due tree) c.in-Fork.is c.requires.cached in
    same_cached hash text due old new (of_err _ _ c.in_err-make_mut-in-Fork.was c.make_mut.follows.holds-at-none) kept

pub remove_from-remove_fork-requires : goal.remove_from-remove_fork-requires
remove_from-remove_fork-requires g t c κs within =
    let K = g.row.K.Denot in
    let V = g.row.V.Denot in
    let hash = g.K.TreeKey.hash in
    let text = g.V.TreeValue.text in let due = g.V.TreeValue.due in
    let old : ForkOf K V = c.in-Fork.fork.value in
    let new : ForkOf K V = c.in_ok-make_mut-in-Fork.field-0.now in
    let kept : IsForkCached hash text due old = subst (λ (tree : Tree K V). IsCached hash text due tree) c.in-Fork.is c.requires.cached in
    let was : IsTrie g.K.TreeKey.bit g.K.TreeKey.BITS c.args.depth (fork_shape old) = subst (λ (tree : Tree K V). IsTrie g.K.TreeKey.bit g.K.TreeKey.BITS c.args.depth (shape tree)) c.in-Fork.is c.requires.trie in
    let is = c.in_ok-make_mut-in-Fork.ensures.value in
    let cached : IsForkCached hash text due new = same_cached hash text due old new is kept in
    let trie : IsTrie g.K.TreeKey.bit g.K.TreeKey.BITS c.args.depth (fork_shape new) = subst (IsTrie g.K.TreeKey.bit g.K.TreeKey.BITS c.args.depth) (sym (same_shape old new is)) was in
    search rules

pub remove_side-returns-then-bit-clause-ok : goal.remove_side-returns-then-bit-clause-ok
remove_side-returns-then-bit-clause-ok g t c =
    on_ok_weaker c.remove_at.result (thin_right g.met.K.TreeKey.only_equal_tie g.K.TreeKey.bit g.K.TreeKey.BITS c.args.key.now c.args.depth (shape c.args.fork.now.left) (shape c.args.fork.now.right) (shape c.remove_at.new.tree) (sym c.bit.ensures ∙ c.if-bit.true) c.requires.trie) c.remove_at.ensures.ok

pub remove_side-returns-else-bit-clause-ok : goal.remove_side-returns-else-bit-clause-ok
remove_side-returns-else-bit-clause-ok g t c =
    on_ok_weaker c.remove_at-else-bit.result (thin_left g.met.K.TreeKey.only_equal_tie g.K.TreeKey.bit g.K.TreeKey.BITS c.args.key.now c.args.depth (shape c.args.fork.now.left) (shape c.remove_at-else-bit.new.tree) (shape c.args.fork.now.right) (sym c.bit.ensures ∙ c.if-bit.false) c.requires.trie) c.remove_at-else-bit.ensures.ok
