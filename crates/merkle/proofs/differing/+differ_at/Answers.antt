use Rattle.std.proofs.Common.{refl, sym, ap, subst}
use Rattle.std.proofs.lemmas.Result.{on_ok_weaker}
use Rattle.merkle.specs.declared.fork.Fork.{Fork as ForkOf}
use Rattle.merkle.specs.Shape.{pairs, IsTrie}
use Rattle.merkle.specs.Tree.{shape, fork_shape}
use Rattle.merkle.specs.Differing.{AreTreesTold}
use Rattle.merkle.proofs.DifferLemmas.{same_digest, all_shown, both_shown, moved}
use Rattle.merkle.proofs.differing.+differ_at.Goals as goal

pub returns-then-has_same_digest : goal.returns-then-has_same_digest
returns-then-has_same_digest g t c =
    same_digest g.V.TreeValue.text g.K.TreeKey.bit c.args.front (shape c.args.old.now) (shape c.args.new.now) c.args.before.now.items c.args.now.now.items (c.has_same_digest.ensures c.if-has_same_digest.true)

pub returns-in_ok-differ_at-in-Fork-Fork : goal.returns-in_ok-differ_at-in-Fork-Fork
returns-in_ok-differ_at-in-Fork-Fork g t c =
    let K = g.row.K.Denot in
    let V = g.row.V.Denot in
    let text = g.V.TreeValue.text in
    let bit = g.K.TreeKey.bit in
    let trie = IsTrie bit g.K.TreeKey.BITS c.args.depth in
    let o : ForkOf K V = c.in-Fork-Fork.old.value in
    let n : ForkOf K V = c.in-Fork-Fork.new.value in
    let old_is = ap shape c.in-Fork-Fork.is-0 in
    let new_is = ap shape c.in-Fork-Fork.is-1 in
    on_ok_weaker c.differ_at-in-Fork-Fork.result (λ second.
    moved text bit c.args.front (fork_shape o) (fork_shape n) _ _ _ _ _ _ (sym old_is) (sym new_is)
    (both_shown text bit g.K.TreeKey.BITS c.args.front c.args.depth (shape o.left) (shape o.right) (shape n.left) (shape n.right) c.if-depth-front.true (subst trie old_is c.requires.old_trie) (subst trie new_is c.requires.new_trie) _ _ _ _ _ _
    (moved text bit c.args.front _ _ (shape o.left) (shape n.left) _ _ _ _ (ap (λ (f : ForkOf K V). shape f.left) c.deref.ensures) (ap (λ (f : ForkOf K V). shape f.left) c.deref-in-Fork-Fork.ensures) c.in_ok-differ_at-in-Fork-Fork.ensures)
    (moved text bit c.args.front _ _ (shape o.right) (shape n.right) _ _ _ _ (ap (λ (f : ForkOf K V). shape f.right) c.deref-in-Fork-Fork-2.ensures) (ap (λ (f : ForkOf K V). shape f.right) c.deref-in-Fork-Fork-3.ensures) second))) c.differ_at-in-Fork-Fork.ensures

pub returns-in_ok-walk_at-in_default : goal.returns-in_ok-walk_at-in_default
returns-in_ok-walk_at-in_default g t c =
    let old = shape c.args.old.now in
    let new = shape c.args.new.now in
    on_ok_weaker c.walk_at-in_default.result (λ sees.
    all_shown g.K.TreeKey.bit c.args.front (AreTreesTold g.V.TreeValue.text old new) (pairs old) (pairs new) c.args.before.now.items c.walk_at.new.visitor.items c.args.now.now.items c.walk_at-in_default.new.visitor.items
    (c.in_ok-walk_at-in_default.ensures c.args.before.now.items refl) (sees c.args.now.now.items refl)) c.walk_at-in_default.ensures
