use Rattle.std.proofs.Common.{◌≡◌, ◌++◌, ap, ◌∙◌, rules}
use Rattle.seals.specs.Frame.{with_length, tag_behind}
use Rattle.seals.proofs.frame.frame_of.Goals as goal

pub returns : goal.returns
unfolding with_length
returns c =
    let counted : c.extend_from_slice-2.new.self.items ≡ with_length c.args.piece.now = search rules in
    c.in_ok-extend_from_slice-3.ensures.items
    ∙ (ap (λ xs. xs ++ c.tag_of-tag.result) counted
    ∙ ap (λ xs. with_length c.args.piece.now ++ xs) (c.tag_of-tag.ensures ∙ ap (tag_behind c.args.key.now c.args.number) (c.as_slice.ensures.value ∙ counted)))
