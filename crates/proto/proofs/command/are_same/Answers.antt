use Rattle.std.proofs.Common.{◌≡◌, sym, ◌∙◌}
use Rattle.std.specs.Bool.{Decides}
use Rattle.std.proofs.lemmas.Slice.Eq.{slice_eq-Decides, bytes_eq-Decides}
use Rattle.proto.proofs.command.are_same.Goals as goal

pub returns : goal.returns
returns c =
    let same : Decides c.eq.result (c.as_slice.result.now ≡ c.as_slice-2.result.now) = slice_eq-Decides bytes_eq-Decides c.as_slice.result.now c.as_slice-2.result.now c.eq.result c.eq.ensures in
    ((λ e. sym c.as_slice.ensures.items ∙ (same.0 e ∙ c.as_slice-2.ensures.items)), (λ e. same.1 (c.as_slice.ensures.items ∙ (e ∙ sym c.as_slice-2.ensures.items))))
