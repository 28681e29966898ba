-- A save of the record of a moment, beside the work after it or alone.
use Rattle.std.proofs.Common.{◌≡◌, ℕ, List, [], ◌++◌, Option, refl, sym, ap, ◌∙◌, ◌⊎◌, inl, inr}
use Rattle.std.proofs.lemmas.List.{append-nil}
use Rattle.loop_messages.specs.declared.message.Said.{Said}
use Rattle.service.specs.Record.{RecordView, kept_in}
use Rattle.service.specs.Process.{kept_service}
use Rattle.server.specs.Answering.{AnsweringView, DoesWhatIsDue}
use Rattle.server.specs.Durable.{IsFoundOf, IsSavedNow, LeavesNothing, LeavesHeld, ReleasesHeld, HandsOutSaved}

module _ {is_text : RecordView → List ℕ → Type 0} {may_find : Option (List ℕ) → Type 0} where
  -- what is found is of the moment of the record
  saved_now : (v : AnsweringView) (kept : RecordView) → kept_in v.service.connections.dialect kept ≡ kept_service v.service
      → ((found : Option (List ℕ)) → may_find found → IsFoundOf is_text kept found) → IsSavedNow is_text may_find v.service
  saved_now v kept moment saved found may = record { kept = kept; of_moment = moment; is_found = saved found may }

module _ {is_text : RecordView → List ℕ → Type 0} {before may_find : Option (List ℕ) → Type 0} where
  -- it failed: what was held is held, and what the service says is behind it
  pub failed_beside : (moment : ℕ) (v ran : AnsweringView) (held out : List Said) (kept : RecordView) → kept_in v.service.connections.dialect kept ≡ kept_service v.service
      → DoesWhatIsDue moment v ran → out ≡ [] → ((found : Option (List ℕ)) → may_find found → before found ⊎ IsFoundOf is_text kept found)
      → HandsOutSaved is_text before may_find moment v held out ran held
  failed_beside moment v ran held out kept of_moment runs none crash = record {
    ran = ran;
    works = inl runs;
    service = refl;
    in_order = ap (λ (l : List Said). l ++ (held ++ ran.said)) none;
    releases = inl (record {
      nothing = none;
      found = λ found may. elim (crash found may) [
        | inl was ↦ inl was
        | inr is ↦ inr (inl (record { kept = kept; of_moment = of_moment; is_found = is }))
      ];
    });
  }

  -- it succeeded: what was held leaves, and what the service says is held
  pub saved_beside : (moment : ℕ) (v ran now : AnsweringView) (held : List Said) (kept : RecordView) → kept_in v.service.connections.dialect kept ≡ kept_service v.service
      → DoesWhatIsDue moment v ran → now.service ≡ ran.service → now.said ≡ [] → ((found : Option (List ℕ)) → may_find found → IsFoundOf is_text kept found)
      → HandsOutSaved is_text before may_find moment v held held now ran.said
  saved_beside moment v ran now held kept of_moment runs service none saved = record {
    ran = ran;
    works = inl runs;
    service = service;
    in_order = ap (λ (l : List Said). held ++ l) (ap (λ (l : List Said). ran.said ++ l) none ∙ append-nil ran.said);
    releases = inr (inl (record { all = refl; saved = saved_now v kept of_moment saved }));
  }

  -- it was made alone, of what was held before
  pub held_is_handed_out : (moment : ℕ) (v now : AnsweringView) (held out rest : List Said) → now ≡ v → ReleasesHeld is_text before may_find v.service held out rest
      → HandsOutSaved is_text before may_find moment v held out now rest
  held_is_handed_out moment v now held out rest same releases = elim releases [
    | inl saved ↦ record {
      ran = v;
      works = inr refl;
      service = ap (λ (a : AnsweringView). a.service) same;
      in_order = ap (λ (l : List Said). l ++ (rest ++ now.said)) saved.all ∙ ap (λ (l : List Said). held ++ l) (ap (λ (l : List Said). l ++ now.said) saved.none ∙ ap (λ (a : AnsweringView). a.said) same);
      releases = inr (inl (record { all = saved.all; saved = saved.saved }));
    }
    | inr kept ↦ record {
      ran = v;
      works = inr refl;
      service = ap (λ (a : AnsweringView). a.service) same;
      in_order = ap (λ (l : List Said). l ++ (rest ++ now.said)) kept.nothing ∙ (ap (λ (l : List Said). l ++ now.said) kept.all ∙ ap (λ (a : AnsweringView). held ++ a.said) same);
      releases = inl (record {
        nothing = kept.nothing;
        found = λ found may. elim (kept.saved found may) [
          | inl was ↦ inl was
          | inr is ↦ inr (inl is)
        ];
      });
    }
  ]

  -- it was made alone, of what was said since, and nothing was held before
  pub said_is_handed_out : (moment : ℕ) (v ran now : AnsweringView) (waiting held out rest : List Said) → DoesWhatIsDue moment v ran ⊎ (ran ≡ v) → waiting ≡ [] → held ≡ ran.said
      → now.service ≡ ran.service → now.said ≡ [] → ReleasesHeld is_text before may_find now.service held out rest
      → HandsOutSaved is_text before may_find moment v waiting out now rest
  said_is_handed_out moment v ran now waiting held out rest works none all service said releases =
      let told : held ++ now.said ≡ waiting ++ ran.said = ap (λ (l : List Said). held ++ l) said ∙ (append-nil held ∙ (all ∙ sym (ap (λ (l : List Said). l ++ ran.said) none))) in
      elim releases [
        | inl saved ↦ record {
          ran = ran;
          works = works;
          service = service;
          in_order = ap (λ (l : List Said). l ++ (rest ++ now.said)) saved.all ∙ (ap (λ (l : List Said). held ++ (l ++ now.said)) saved.none ∙ told);
          releases = inr (inr saved.saved);
        }
        | inr kept ↦ record {
          ran = ran;
          works = works;
          service = service;
          in_order = ap (λ (l : List Said). l ++ (rest ++ now.said)) kept.nothing ∙ (ap (λ (l : List Said). l ++ now.said) kept.all ∙ told);
          releases = inl (record {
            nothing = kept.nothing;
            found = λ found may. elim (kept.saved found may) [
              | inl was ↦ inl was
              | inr is ↦ inr (inr is)
            ];
          });
        }
      ]

  -- nothing is saved, and nothing leaves
  pub nothing_leaves : (moment : ℕ) (v ran now : AnsweringView) (held out rest : List Said) → DoesWhatIsDue moment v ran ⊎ (ran ≡ v) → now.service ≡ ran.service
      → rest ++ now.said ≡ held ++ ran.said → out ≡ [] → ((found : Option (List ℕ)) → may_find found → before found)
      → HandsOutSaved is_text before may_find moment v held out now rest
  nothing_leaves moment v ran now held out rest works service order none same = record {
    ran = ran;
    works = works;
    service = service;
    in_order = ap (λ (l : List Said). l ++ (rest ++ now.said)) none ∙ order;
    releases = inl (record { nothing = none; found = λ found may. inl (same found may) });
  }
