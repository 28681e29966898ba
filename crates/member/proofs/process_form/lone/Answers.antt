use Rattle.std.proofs.Common.{◌≡◌, ℕ, List, length, Some, slice_get, refl, sym, ap, ◌∙◌, arith}
use Rattle.std.proofs.lemmas.Option.{slice_get_read}
use Rattle.keeper.specs.Kept.{Kept}
use Rattle.member.proofs.Forms.{is_alone}
use Rattle.member.proofs.process_form.lone.Goals as goal

pub returns-clause-alone : goal.returns-clause-alone
returns-clause-alone g c =
    let keepers : List Kept = c.args.keepers.now in
    let kept : Kept = c.index-keepers-place.result in
    let found : slice_get keepers c.from-place.result ≡ Some kept = slice_get_read keepers _ c.from-place.result kept refl (omega (arith, c.if-keepers-place.false)) c.index-keepers-place.is in
    is_alone c.args.count c.args.id kept keepers (omega (arith, c.if-keepers-from.false, c.from.ensures)) (c.has_no_other.ensures.0 c.if-not-has_no_other.false)
    (ap (λ (at : ℕ). slice_get keepers at) (sym c.from-place.ensures) ∙ found)
