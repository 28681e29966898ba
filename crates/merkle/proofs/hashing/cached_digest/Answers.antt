use Rattle.std.proofs.Common.{sym, ap, ◌∙◌, subst}
use Rattle.merkle.specs.declared.fork.Leaf.{Leaf as LeafOf}
use Rattle.merkle.specs.declared.fork.Tree.{Tree}
use Rattle.merkle.specs.Shape.{digest_of}
use Rattle.merkle.specs.Tree.{shape, IsLeafCached, IsCached}
use Rattle.merkle.proofs.hashing.cached_digest.Goals as goal

pub returns-in-Empty-clause-some : goal.returns-in-Empty-clause-some
unfolding digest_of
returns-in-Empty-clause-some g c = c.empty_digest.ensures ∙ ap (λ s. digest_of g.V.TreeValue.text s) (sym (ap shape c.in-Empty.is))

pub returns-in-Leaf-clause-some : goal.returns-in-Leaf-clause-some
unfolding digest_of
returns-in-Leaf-clause-some g c =
    let K = g.row.K.Denot in
    let V = g.row.V.Denot in
    let kept : IsLeafCached g.K.TreeKey.hash g.V.TreeValue.text c.in-Leaf.leaf.value = subst (λ (tree : Tree K V). IsCached g.K.TreeKey.hash g.V.TreeValue.text g.V.TreeValue.due tree) c.in-Leaf.is c.requires in
    ap (λ (l : LeafOf K V). l.digest) c.deref.ensures ∙ kept.digested ∙ ap (λ s. digest_of g.V.TreeValue.text s) (sym (ap shape c.in-Leaf.is))
