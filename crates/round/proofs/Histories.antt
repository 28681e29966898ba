-- One step more in a page's history.
use Rattle.std.proofs.Common.{◌≡◌, ℕ, List, [], ◌∷◌, ◌++◌, map, refl, sym, ap, ◌∙◌}
use Rattle.std.proofs.lemmas.List.{map-append}
use Rattle.items.specs.Map.{Items}
use Rattle.item_steps.specs.Effect.{effect}
use Rattle.item_steps.specs.Schedule.{stamped, history_items, history_answers}
use Rattle.item_steps.specs.declared.step.Stamp.{Stamp}
use Rattle.item_steps.specs.declared.step.Step.{Step}
use Rattle.pages.specs.Step.{step_page}
use Rattle.round.specs.declared.rule.Entry.{Entry}
use Rattle.round.specs.Histories.{IsRoundHistory, timed}
use Rattle.round.proofs.Lists.{all_push}

items_more : (page : Items) (steps : List (Step × Stamp)) (s : Step × Stamp) → history_items page (steps ++ s ∷ []) ≡ (effect (history_items page steps) s.0 s.1).0
items_more page [] s = refl
items_more page (x ∷ xs) s = items_more (effect page x.0 x.1).0 xs s

answers_more : (page : Items) (steps : List (Step × Stamp)) (s : Step × Stamp) → history_answers page (steps ++ s ∷ []) ≡ history_answers page steps ++ (effect (history_items page steps) s.0 s.1).1 ∷ []
answers_more page [] s = refl
answers_more page (x ∷ xs) s = ap (λ l. (effect page x.0 x.1).1 ∷ l) (answers_more (effect page x.0 x.1).0 xs s)

pub history_none : (base : Stamp) (number : ℕ) (page : Items) → IsRoundHistory base number page [] page
history_none base number page = record { own = tt; runs = record { items = refl; replies = refl } }

pub history_push : (base : Stamp) (number : ℕ) (start : Items) (log : List Entry) (page now : Items) (e : Entry) → e.page ≡ number → step_page e.step ≡ number
    → now ≡ (effect page e.step (stamped base e.place)).0 → e.answer ≡ (effect page e.step (stamped base e.place)).1
    → IsRoundHistory base number start log page → IsRoundHistory base number start (log ++ e ∷ []) now
history_push base number start log page now e here on items answer h =
    let at = map-append (timed base) log (e ∷ []) in
    record {
      own = all_push (λ (x : Entry). (x.page ≡ number) × (step_page x.step ≡ number)) log e h.own (here, on);
      runs = record {
        items = items ∙ ap (λ (m : Items). (effect m e.step (stamped base e.place)).0) h.runs.items ∙ sym (items_more start (map (timed base) log) (timed base e)) ∙ ap (history_items start) (sym at);
        replies = map-append (λ (x : Entry). x.answer) log (e ∷ []) ∙ (λ k. h.runs.replies k ++ (answer ∙ ap (λ (m : Items). (effect m e.step (stamped base e.place)).1) h.runs.items) k ∷ [])
            ∙ sym (answers_more start (map (timed base) log) (timed base e)) ∙ ap (history_answers start) (sym at);
      };
    }
