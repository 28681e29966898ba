use Rattle.std.proofs.Common.{◌≡◌, ◌≤◌, ◌-◌, ℕ, true, false, List, length, take, drop, sym, ap, ◌∙◌, subst, arith}
use Rattle.seals.specs.declared.frame.TheConstants.{MOST_PIECE_BYTES, LENGTH_BYTES, TAG_BYTES}
use Rattle.seals.specs.Frame.{tag_behind, frame}
use Rattle.seals.proofs.FrameLemmas.{right_tag, wrong_tag, piece_of_whole}
use Rattle.seals.proofs.opener.piece_in.Goals as goal

pub returns-then-not-are_same-clause-err : goal.returns-then-not-are_same-clause-err
returns-then-not-are_same-clause-err c =
    wrong_tag c.args.bytes.now (λ i. omega (arith, c.type_inv.bytes i)) c.requires c.args.key.now c.args.number (λ e.
    let same : c.are_same.result ≡ true = c.are_same.ensures.1 (c.tag_of.ensures ∙ (ap (tag_behind c.args.key.now c.args.number) c.split_at.ensures.front ∙ (e ∙ sym c.split_at.ensures.back))) in
    let clash : false ≡ true = sym c.if-not-are_same.true ∙ same in
    cc)

pub returns-clause-ok : goal.returns-clause-ok
returns-clause-ok c =
    let piece : c.new.result ≡ drop LENGTH_BYTES (take (length c.args.bytes.now - TAG_BYTES) c.args.bytes.now) =
    c.new.ensures ∙ (c.in_ok-from_slice.ensures.items ∙ (c.split_at-2.ensures.back ∙ ap (drop LENGTH_BYTES) c.split_at.ensures.front)) in
    let tags : tag_behind c.args.key.now c.args.number (take (length c.args.bytes.now - TAG_BYTES) c.args.bytes.now) ≡ drop (length c.args.bytes.now - TAG_BYTES) c.args.bytes.now =
    ap (tag_behind c.args.key.now c.args.number) (sym c.split_at.ensures.front) ∙ (sym c.tag_of.ensures ∙ (c.are_same.ensures.0 c.if-not-are_same.false ∙ c.split_at.ensures.back)) in
    subst (λ (p : List ℕ). (c.args.bytes.now ≡ frame c.args.key.now c.args.number p) × (length p ≤ MOST_PIECE_BYTES)) (sym piece) (
      right_tag c.args.bytes.now (λ i. omega (arith, c.type_inv.bytes i)) c.requires c.args.key.now c.args.number tags,
      piece_of_whole c.args.bytes.now (λ i. omega (arith, c.type_inv.bytes i)) c.requires,
    )
