-- What may be found stays behind what has left.
use Rattle.std.proofs.Common.{◌≡◌, inl, inr, ℕ, List, [], ◌∷◌, ◌++◌, Option, refl, sym, ap, ◌∙◌, subst, append-nil, append_assoc}
use Rattle.std.specs.Prelude.{Contains}
use Rattle.std.proofs.lemmas.List.Elements.{Contains-append_left, Contains-push}
use Rattle.loop_messages.specs.declared.message.Said.{Said}
use Rattle.service.specs.Record.{RecordView}
use Rattle.server.specs.Answering.{AnsweringView}
use Rattle.server.specs.Durable.{IsOfMoment, Releases}
use Rattle.saved_laws.specs.Behind.{Moment, moment_with, IsOfOne, IsBehind}

module _ (is_text : RecordView → List ℕ → Type 0) (begun : Option (List ℕ) → Type 0) where
  one_more : (moments : List Moment) (left : List Said) (now : Moment) (found : Option (List ℕ)) → IsOfOne is_text moments left found → IsOfOne is_text (moments ++ now ∷ []) left found
  one_more moments left now found one = record { moment = one.moment; there = Contains-append_left moments (now ∷ []) one.moment one.there; is = one.is; later = one.later }

  pub moment_more : (may_find : Option (List ℕ) → Type 0) (moments : List Moment) (left : List Said) (now : Moment) → IsBehind is_text begun may_find moments left → IsBehind is_text begun may_find (moments ++ now ∷ []) left
  moment_more may_find moments left now behind found may =
      elim (behind found may) [ inl none ↦ inl none | inr one ↦ inr (one_more moments left now found one) ]

  module _ (before may_find : Option (List ℕ) → Type 0) (moments : List Moment) (left held out rest : List Said) (v now : AnsweringView)
      (here : Contains moments (moment_with v left held)) (behind : IsBehind is_text begun before moments left) where
    abbrev then : Moment
    then = moment_with now (left ++ out) rest

    of_then : (found : Option (List ℕ)) → IsOfMoment is_text now.service found → IsOfOne is_text (moments ++ then ∷ []) (left ++ out) found
    of_then found is = record {
      moment = then;
      there = Contains-push moments then;
      is = is;
      later = record { more = rest ++ now.said; is = refl };
    }

    of_before : (found : Option (List ℕ)) (gone : List Said) (more : List Said) → held ≡ gone ++ more → IsOfMoment is_text v.service found → IsOfOne is_text (moments ++ then ∷ []) (left ++ gone) found
    of_before found gone more parts is = record {
      moment = moment_with v left held;
      there = Contains-append_left moments (then ∷ []) (moment_with v left held) here;
      is = is;
      later = record { more = more ++ v.said; is = ap (λ xs. left ++ (xs ++ v.said)) parts ∙ (ap (λ xs. left ++ xs) (append_assoc gone more v.said) ∙ sym (append_assoc left gone (more ++ v.said))) };
    }

    pub work_stays : Releases is_text before may_find v.service held out now.service → IsBehind is_text begun may_find (moments ++ then ∷ []) (left ++ out)
    work_stays (inl nothing) found may =
        let same : left ++ out ≡ left = ap (λ xs. left ++ xs) nothing.nothing ∙ append-nil left in
        elim (nothing.found found may) [
          | inl was ↦ elim (behind found was) [
            | inl none ↦ inl (none.0, same ∙ none.1)
            | inr one ↦ inr (subst (λ xs. IsOfOne is_text (moments ++ then ∷ []) xs found) (sym same) (one_more moments left then found one))
          ]
          | inr new ↦ elim new [
            | inl is ↦ inr (subst (λ xs. IsOfOne is_text (moments ++ then ∷ []) (left ++ xs) found) (sym nothing.nothing) (of_before found [] held refl is))
            | inr is ↦ inr (of_then found is)
          ]
        ]
    work_stays (inr (inl all)) found may =
        inr (subst (λ xs. IsOfOne is_text (moments ++ then ∷ []) (left ++ xs) found) (sym all.all) (of_before found held [] (sym (append-nil held)) (all.saved found may)))
    work_stays (inr (inr saved)) found may = inr (of_then found (saved found may))
