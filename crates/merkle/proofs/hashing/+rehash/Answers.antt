use Rattle.std.proofs.Common.{◌≡◌, rules, sym, ap, ◌∙◌, subst}
use Rattle.merkle.specs.declared.fork.Tree.{Tree}
use Rattle.merkle.specs.declared.fork.Fork.{Fork as ForkOf}
use Rattle.merkle.specs.Shape.{fork, is_none, digest_of, least, nodes}
use Rattle.merkle.specs.Tree.{shape, fork_shape, IsCached, IsForkCached}
use Rattle.merkle.proofs.TreeLemmas.{same_shape, same_cached, of_err}
use Rattle.merkle.proofs.HashLemmas.{both_digests}
use Rattle.merkle.proofs.hashing.+rehash.Goals as goal

pub rehash_at-returns-in_err-make_mut-in-Fork-clause-cached : goal.rehash_at-returns-in_err-make_mut-in-Fork-clause-cached
rehash_at-returns-in_err-make_mut-in-Fork-clause-cached g t c =
    let K = g.row.K.Denot in
    let V = g.row.V.Denot in
    let hash = g.K.TreeKey.hash in
    let text = g.V.TreeValue.text in let due = g.V.TreeValue.due in
    let old : ForkOf K V = c.in-Fork.fork.value in
    let new : ForkOf K V = c.make_mut.follows.lender-at-none.value in
    let kept : IsForkCached hash text due old = subst (λ (tree : Tree K V). IsCached hash text due tree) c.in-Fork.is c.requires in
    same_cached hash text due old new (of_err _ _ c.in_err-make_mut-in-Fork.was c.make_mut.follows.holds-at-none) kept

pub rehash_at-rehash_fork-requires : goal.rehash_at-rehash_fork-requires
rehash_at-rehash_fork-requires g t c κs within =
    let K = g.row.K.Denot in
    let V = g.row.V.Denot in
    let hash = g.K.TreeKey.hash in
    let text = g.V.TreeValue.text in let due = g.V.TreeValue.due in
    let old : ForkOf K V = c.in-Fork.fork.value in
    let new : ForkOf K V = c.in_ok-make_mut-in-Fork.field-0.now in
    let kept : IsForkCached hash text due old = subst (λ (tree : Tree K V). IsCached hash text due tree) c.in-Fork.is c.requires in
    let is = c.in_ok-make_mut-in-Fork.ensures.value in
    let cached : IsForkCached hash text due new = same_cached hash text due old new is kept in
    let size : nodes (shape c.args.tree.now) ≡ nodes (fork_shape new) = ap nodes (ap shape c.in-Fork.is ∙ sym (same_shape old new is)) in
    search rules

pub rehash_fork-returns-clause-digest : goal.rehash_fork-returns-clause-digest
rehash_fork-returns-clause-digest g t c =
    both_digests g.V.TreeValue.text (shape c.args.fork.now.left) (shape c.args.fork.now.right) _ _ _ _ _
    (c.is_empty-left_empty.ensures ∙ ap is_none c.rehash_at.ensures.same) (c.is_empty-right_empty.ensures ∙ ap is_none c.rehash_at-2.ensures.same)
    c.in_ok-left.ensures.digest c.in_ok-right.ensures.digest c.joined_digest-digest.ensures

pub rehash_fork-returns-clause-cached : goal.rehash_fork-returns-clause-cached
rehash_fork-returns-clause-cached g t c =
    let text = g.V.TreeValue.text in
    let due = g.V.TreeValue.due in (
      rehash_fork-returns-clause-digest g t c ∙ (λ i. digest_of text (fork (sym c.rehash_at.ensures.same i) (sym c.rehash_at-2.ensures.same i))),
      c.requires.1 ∙ ap (least due) (sym c.rehash_at.ensures.same),
      c.requires.2 ∙ ap (least due) (sym c.rehash_at-2.ensures.same),
      c.rehash_at.ensures.cached,
      c.rehash_at-2.ensures.cached,
    )
