use Rattle.std.proofs.Common.{◌≡◌, ◌∙◌, sym, subst}
use Rattle.transfer.specs.Parcel.{IsParcel}
use Rattle.transfer.proofs.AnswerLemmas.{answer_is_parcel}
use Rattle.transfer.proofs.answering.answer.Goals as goal

pub invariant_of-result : goal.invariant_of-result
invariant_of-result c =
    let sessions : c.in_ok-clone.field-0 ≡ c.args.state.now.sessions = c.in_ok-clone.ensures.cases ∙ c.sessions.ensures.sessions in
    subst IsParcel (λ i. record { origin = sym c.origin.ensures i; sessions = sym sessions i; pages = sym c.in_ok-differing_from.ensures i })
    (answer_is_parcel c.args.state.now c.args.need.now c.is_state.ensures c.requires)
