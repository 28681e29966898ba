use Rattle.std.proofs.Common.{sym, ap, ◌∙◌}
use Rattle.merkle.specs.declared.fork.Fork.{Fork as ForkOf}
use Rattle.merkle.specs.Shape.{is_none, digest_of}
use Rattle.merkle.specs.Tree.{shape}
use Rattle.merkle.proofs.HashLemmas.{both_digests}
use Rattle.merkle.proofs.hashing.+digest_at.Goals as goal

pub returns : goal.returns
returns g t c =
    let K = g.row.K.Denot in
    let V = g.row.V.Denot in
    let text = g.V.TreeValue.text in
    let below : ForkOf K V = c.in-Fork.fork.value in
    both_digests text (shape below.left) (shape below.right) _ _ _ _ _
    (c.is_empty.ensures ∙ ap (λ (f : ForkOf K V). is_none (shape f.left)) c.deref-in-Fork-2.ensures)
    (c.is_empty-in-Fork.ensures ∙ ap (λ (f : ForkOf K V). is_none (shape f.right)) c.deref-in-Fork-3.ensures)
    (c.digest_at-left.ensures ∙ ap (λ (f : ForkOf K V). digest_of text (shape f.left)) c.deref.ensures)
    (c.digest_at-right.ensures ∙ ap (λ (f : ForkOf K V). digest_of text (shape f.right)) c.deref-in-Fork.ensures)
    c.joined_digest.ensures
    ∙ ap (λ s. digest_of text s) (sym (ap shape c.in-Fork.is))
