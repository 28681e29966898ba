-- Page by page, or all pages at once in the order of the tickets: the same.
use Rattle.std.proofs.Common.{◌≡◌, ◌≢◌, ℕ, zero, suc, ◌+◌, ◌<◌, ◌≤◌, cond, List, [], ◌∷◌, ◌++◌, map, length, get_or, set, refl, sym, ap, ◌∙◌, subst, arith, get_or-set_same, get_or-set_other, eq-eqb, ne_eqb}
use Rattle.std.specs.Prelude.{◌==◌, ◌||◌}
use Rattle.std.proofs.lemmas.List.{ext_get_or}
use Rattle.std.proofs.lemmas.List.FromFn.{get_or-map-range_with_len}
use Rattle.std.proofs.lemmas.Option.{slice_get-get_or}
use mathlib.Core.Logic.{dite}
use native.Mathlib.Decide.{ℕ_discrete}
use Rattle.items.specs.Map.{Items}
use Rattle.item_steps.specs.Effect.{effect}
use Rattle.item_steps.specs.Schedule.{stamped, items_after, answers_in, history_answers}
use Rattle.item_steps.specs.declared.step.Stamp.{Stamp}
use Rattle.pages.specs.Page.{page_count, page_items}
use Rattle.pages.specs.Joined.{ArePages, joined_pages, parts}
use Rattle.pages.specs.Step.{step_page}
use Rattle.pages.proofs.JoinedLemmas.{no_items}
use Rattle.pages.proofs.PartLemmas.{parts-are}
use Rattle.pages.proofs.EffectLemmas.{effect-answer, effect-items, effect-pages}
use Rattle.round.specs.declared.rule.Entry.{Entry}
use Rattle.round.specs.declared.rule.Held.{Held}
use Rattle.round.specs.Tickets.{log_of, Kinds, AreLogs}
use Rattle.round.specs.Histories.{IsRoundHistory, timed}
use Rattle.round.specs.Orders.{AreHistories, placed_of, answered_of}
use Rattle.round.proofs.Lists.{same_head, same_tail}

log_here : (p : ℕ) (e : Entry) (es : List Entry) → e.page ≡ p → log_of p (e ∷ es) ≡ e ∷ log_of p es
log_here p e es is = ap (λ b. cond (b || (e.caller == p)) (e ∷ log_of p es) (log_of p es)) (eq-eqb e.page p is)

log_else : (p : ℕ) (e : Entry) (es : List Entry) → p < page_count → page_count ≤ e.caller → e.page ≢ p → log_of p (e ∷ es) ≡ log_of p es
log_else p e es low high off =
    ap (λ b. cond (b || (e.caller == p)) (e ∷ log_of p es) (log_of p es)) (ne_eqb e.page p off)
    ∙ ap (λ b. cond b (e ∷ log_of p es) (log_of p es)) (ne_eqb e.caller p (λ same. omega arith))

module _ (base : Stamp) where
  -- each page has the history that the order gives it
  abbrev Paged : List Items → List Entry → List Items → Type 0
  Paged opening order now = (p : ℕ) → p < page_count → IsRoundHistory base p (get_or opening p no_items) (log_of p order) (get_or now p no_items)

  pub record Replayed (opening : List Items) (order : List Entry) (now : List Items) : Type 0 where
    pub are : ArePages now
    pub items : joined_pages now ≡ items_after base (joined_pages opening) (map placed_of order)
    pub replies : map answered_of order ≡ answers_in base (joined_pages opening) (map placed_of order)

  -- the history after its first step
  rest_of : (p : ℕ) (page now : Items) (e : Entry) (es : List Entry) → IsRoundHistory base p page (e ∷ es) now
      → IsRoundHistory base p (effect page e.step (stamped base e.place)).0 es now
  rest_of p page now e es h = record {
    own = h.own.1;
    runs = record {
      items = h.runs.items;
      replies = same_tail e.answer (effect page e.step (stamped base e.place)).1 (map (λ (x : Entry). x.answer) es)
          (history_answers (effect page e.step (stamped base e.place)).0 (map (timed base) es)) h.runs.replies;
    };
  }

  pub replays : (order : List Entry) (opening now : List Items) → ArePages opening → length now ≡ page_count → Kinds order → Paged opening order now → Replayed opening order now
  replays [] opening now are len kinds paged =
      let same : now ≡ opening = ext_get_or no_items now opening (len ∙ sym are.0) (λ i h. (paged i (omega arith)).runs.items) in
      record { are = subst ArePages (sym same) are; items = ap joined_pages same; replies = refl }
  replays (e ∷ es) opening now are len kinds paged =
      let low = kinds.0 in
      let high = kinds.1 in
      let page : Items = get_or opening e.page no_items in
      let at : Stamp = stamped base e.place in
      let after : Items = (effect page e.step at).0 in
      let wide : length opening ≡ page_count = are.0 in
      let mine : IsRoundHistory base e.page page (e ∷ log_of e.page es) (get_or now e.page no_items) =
      subst (λ l. IsRoundHistory base e.page page l (get_or now e.page no_items)) (log_here e.page e es refl) (paged e.page low) in
      let there = slice_get-get_or opening e.page no_items (omega arith) in
      let on : step_page e.step ≡ e.page = mine.own.0.1 in
      let answer : e.answer ≡ (effect page e.step at).1 = same_head e.answer (effect page e.step at).1 (map (λ (x : Entry). x.answer) (log_of e.page es))
      (history_answers after (map (timed base) (log_of e.page es))) mine.runs.replies in
      let rest : Paged (set opening e.page after) es now = λ p h. dite (ℕ_discrete p e.page)
      (λ is. subst (λ q. IsRoundHistory base q (get_or (set opening e.page after) q no_items) (log_of q es) (get_or now q no_items)) (sym is)
      (subst (λ z. IsRoundHistory base e.page z (log_of e.page es) (get_or now e.page no_items)) (sym (get_or-set_same opening e.page after no_items (omega arith)))
      (rest_of e.page page (get_or now e.page no_items) e (log_of e.page es) mine)))
      (λ off. subst (λ z. IsRoundHistory base p z (log_of p es) (get_or now p no_items)) (sym (get_or-set_other opening e.page p after no_items off))
      (subst (λ l. IsRoundHistory base p (get_or opening p no_items) l (get_or now p no_items)) (log_else p e es h high (λ same. off (sym same))) (paged p h))) in
      let later = replays es (set opening e.page after) now (effect-pages opening e.page page e.step at are on there) len kinds.2 rest in
      let whole = effect-items opening e.page page e.step at are on there in
      let said = answer ∙ sym (effect-answer opening e.page page e.step at are on there) in
      let others = later.replies ∙ ap (λ (m : Items). answers_in base m (map placed_of es)) (sym whole) in
      record {
        are = later.are;
        items = later.items ∙ ap (λ (m : Items). items_after base m (map placed_of es)) (sym whole);
        replies = λ i. (e.place, said i) ∷ others i;
      }

  -- what is held, by its place
  histories_at : (opening : Items) (k : ℕ) (hs : List Held) (now : List Items) (order : List Entry) → AreHistories base opening k hs now → AreLogs order hs → (i : ℕ) → i < length now
      → IsRoundHistory base (k + i) (page_items opening (k + i)) (log_of (k + i) order) (get_or now i no_items)
  histories_at opening k [] [] order are logs i h = absurd (omega arith)
  histories_at opening k [] (x ∷ xs) order are logs i h = absurd are
  histories_at opening k (h ∷ hs) [] order are logs i lt = absurd are
  histories_at opening k (h ∷ hs) (x ∷ xs) order are logs zero lt =
      let zer : k ≡ k + 0 = omega arith in
      subst (λ n. IsRoundHistory base n (page_items opening n) (log_of n order) x) zer
      (subst (λ l. IsRoundHistory base k (page_items opening k) l x) (logs.0 ∙ ap (λ n. log_of n order) are.0) are.1)
  histories_at opening k (h ∷ hs) (x ∷ xs) order are logs (suc i) lt =
      let more : (k + 1) + i ≡ k + suc i = omega arith in
      subst (λ n. IsRoundHistory base n (page_items opening n) (log_of n order) (get_or xs i no_items)) more (histories_at opening (k + 1) hs xs order are.2 logs.1 i (omega arith))

  -- the pages that are held come of the order
  pub replays_held : (opening : Items) (hs : List Held) (now : List Items) (order : List Entry) → length now ≡ page_count → Kinds order → AreHistories base opening 0 hs now → AreLogs order hs → Replayed (parts opening) order now
  replays_held opening hs now order len kinds are logs = replays order (parts opening) now (parts-are opening) len kinds (λ p h.
      let zer : 0 + p ≡ p = omega arith in
      let start : get_or (parts opening) p no_items ≡ page_items opening p = get_or-map-range_with_len (page_items opening) 0 page_count p p no_items h (omega arith) in
      subst (λ m. IsRoundHistory base p m (log_of p order) (get_or now p no_items)) (sym start)
      (subst (λ n. IsRoundHistory base n (page_items opening n) (log_of n order) (get_or now p no_items)) zer (histories_at opening 0 hs now order are logs p (omega arith))))

  -- one page more
  pub histories_push : (opening : Items) (k : ℕ) (hs : List Held) (now : List Items) (h : Held) (x : Items) → AreHistories base opening k hs now → h.name ≡ k + length now
      → IsRoundHistory base (k + length now) (page_items opening (k + length now)) h.log x → AreHistories base opening k (hs ++ h ∷ []) (now ++ x ∷ [])
  histories_push opening k [] [] h x are name hist = let zer : k + 0 ≡ k = omega arith in (name ∙ zer, subst (λ n. IsRoundHistory base n (page_items opening n) h.log x) zer hist, tt)
  histories_push opening k [] (y ∷ ys) h x are name hist = absurd are
  histories_push opening k (g ∷ hs) [] h x are name hist = absurd are
  histories_push opening k (g ∷ hs) (y ∷ ys) h x are name hist =
      let more : k + length (y ∷ ys) ≡ (k + 1) + length ys = omega arith in
      (are.0, are.1, histories_push opening (k + 1) hs ys h x are.2 (name ∙ more) (subst (λ n. IsRoundHistory base n (page_items opening n) h.log x) more hist))

  pub histories_push_as : (opening : Items) (hs : List Held) (now : List Items) (number : ℕ) (log : List Entry) (x : Items) → AreHistories base opening 0 hs now → number ≡ length now
      → IsRoundHistory base number (page_items opening number) log x → AreHistories base opening 0 (hs ++ record { name = number; log = log } ∷ []) (now ++ x ∷ [])
  histories_push_as opening hs now number log x are is hist =
      let zer : number ≡ 0 + length now = omega arith in
      histories_push opening 0 hs now (record { name = number; log = log }) x are zer (subst (λ n. IsRoundHistory base n (page_items opening n) log x) zer hist)
