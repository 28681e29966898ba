-- A step on the map that the pages are together is that step on the page of its key.
use Rattle.std.proofs.Common.{◌≡◌, ℕ, List, get_or, set, Some, sym, ap, ◌∙◌, subst, slice_get, slice_set}
use Rattle.std.specs.FinMap.{get}
use Rattle.std.proofs.lemmas.List.{set-get_or}
use Rattle.std.proofs.lemmas.Option.{get_or_from_slice_get}
use Rattle.proto.specs.Update.{key_of_update}
use Rattle.items.specs.Map.{Items}
use Rattle.item_steps.specs.Effect.{effect, changed, touched, updated}
use Rattle.item_steps.specs.declared.step.Stamp.{Stamp}
use Rattle.item_steps.specs.declared.step.Step.{Step}
use Rattle.item_steps.specs.declared.step.Step.TheVariants.{Read, ReadAndTouch, Update}
use Rattle.item_steps.specs.declared.step.Answer.TheVariants.{Seen, Did}
use Rattle.item_steps.specs.declared.effect.Change.{Change}
use Rattle.item_steps.specs.declared.effect.Change.TheVariants.{Leave, Put, Remove}
use Rattle.pages.specs.Page.{page_number}
use Rattle.pages.specs.Joined.{ArePages, joined_pages}
use Rattle.pages.specs.Step.{step_key, step_page}
use Rattle.pages.proofs.JoinedLemmas.{no_items, joined_at, own-page, pages-set, joined-insert, joined-remove}

-- the page of a key
abbrev page_at : List Items → List ℕ → Items
page_at pages key = get_or pages (page_number key) no_items

-- a change at one key
change-at : (pages : List Items) (a : ArePages pages) (key : List ℕ) (c : Change)
    → ArePages (set pages (page_number key) (changed (page_at pages key) key c)) × (joined_pages (set pages (page_number key) (changed (page_at pages key) key c)) ≡ changed (joined_pages pages) key c)
change-at pages a key Leave =
    (pages-set pages (page_number key) (page_at pages key) a (own-page pages (page_number key) a), ap joined_pages (set-get_or pages (page_number key) no_items))
change-at pages a key (Put item) = joined-insert pages a key item
change-at pages a key Remove = joined-remove pages a key

answer-at : (pages : List Items) (s : Step) (place : Stamp) → ArePages pages → (effect (joined_pages pages) s place).1 ≡ (effect (page_at pages (step_key s)) s place).1
answer-at pages (Read key) place a = ap Seen (joined_at pages key a)
answer-at pages (ReadAndTouch key exptime) place a = ap Seen (joined_at pages key a)
answer-at pages (Update u) place a = ap (λ found. Did (updated u place found).1) (joined_at pages (key_of_update u) a)

items-at : (pages : List Items) (s : Step) (place : Stamp) → ArePages pages
    → ArePages (set pages (step_page s) (effect (page_at pages (step_key s)) s place).0) × (joined_pages (set pages (step_page s) (effect (page_at pages (step_key s)) s place).0) ≡ (effect (joined_pages pages) s place).0)
items-at pages (Read key) place a = change-at pages a key Leave
items-at pages (ReadAndTouch key exptime) place a =
    let done = change-at pages a key (touched exptime place (get (page_at pages key) key)).0 in
    (done.0, done.1 ∙ ap (λ found. changed (joined_pages pages) key (touched exptime place found).0) (sym (joined_at pages key a)))
items-at pages (Update u) place a =
    let key = key_of_update u in
    let done = change-at pages a key (updated u place (get (page_at pages key) key)).0 in
    (done.0, done.1 ∙ ap (λ found. changed (joined_pages pages) key (updated u place found).0) (sym (joined_at pages key a)))

-- the page that is there is the page of the step's key
is_page : (pages : List Items) (p : ℕ) (m : Items) (s : Step) → step_page s ≡ p → slice_get pages p ≡ Some m → page_at pages (step_key s) ≡ m
is_page pages p m s number here = ap (λ n. get_or pages n no_items) number ∙ get_or_from_slice_get pages p m no_items here

-- a step answers what it answers on its page
pub effect-answer : (pages : List Items) (p : ℕ) (m : Items) (s : Step) (place : Stamp) → ArePages pages → step_page s ≡ p → slice_get pages p ≡ Some m
    → (effect (joined_pages pages) s place).1 ≡ (effect m s place).1
effect-answer pages p m s place a number here = answer-at pages s place a ∙ ap (λ n. (effect n s place).1) (is_page pages p m s number here)

-- it changes what it changes on its page
pub effect-items : (pages : List Items) (p : ℕ) (m : Items) (s : Step) (place : Stamp) → ArePages pages → step_page s ≡ p → slice_get pages p ≡ Some m
    → (effect (joined_pages pages) s place).0 ≡ joined_pages (slice_set pages p (effect m s place).0)
effect-items pages p m s place a number here =
    sym (items-at pages s place a).1 ∙ (λ i. joined_pages (set pages (number i) (effect (is_page pages p m s number here i) s place).0))

-- and the pages are pages still
pub effect-pages : (pages : List Items) (p : ℕ) (m : Items) (s : Step) (place : Stamp) → ArePages pages → step_page s ≡ p → slice_get pages p ≡ Some m
    → ArePages (slice_set pages p (effect m s place).0)
effect-pages pages p m s place a number here =
    subst ArePages (λ i. set pages (number i) (effect (is_page pages p m s number here i) s place).0) (items-at pages s place a).0
