-- Sets of pages, and what stays the same in all other pages.
use Rattle.std.specs.Prelude.{◌≡◌, ℕ, ◌<◌, List, Bool, true, false, slice_index_or, ⊤, All}
use Rattle.proto.specs.Update.{key_of_update}
use Rattle.items.specs.Map.{Items}
use Rattle.item_steps.specs.Schedule.{Placed}
use Rattle.item_steps.specs.declared.step.Step.{Step}
use Rattle.item_steps.specs.declared.step.Step.TheVariants as variant
use Rattle.pages.specs.Page.{page_number, page_entries, page_items, page_count}

-- whether the set has page p
abbrev pub has_page : List Bool → ℕ → Bool
has_page pages p = slice_index_or pages p false

-- each page that is not in the set has the same entries in both
abbrev pub AreSameBeside : List Bool → Items → Items → Type 0
AreSameBeside pages before after = (p : ℕ) → p < page_count → has_page pages p ≡ false → page_entries before p ≡ page_entries after p

-- each page of the one set is in the other
abbrev pub AreWithin : List Bool → List Bool → Type 0
AreWithin less more = (p : ℕ) → has_page less p ≡ true → has_page more p ≡ true

-- the set has the page that the step can change: a read changes none
abbrev pub Covers : List Bool → Step → Type 0
Covers pages (variant.Read key) = ⊤
Covers pages (variant.ReadAndTouch key exptime) = has_page pages (page_number key) ≡ true
Covers pages (variant.Update update) = has_page pages (page_number (key_of_update update)) ≡ true

-- and those of all steps
abbrev pub CoversAll : List Bool → List Placed → Type 0
CoversAll pages order = All (λ s. Covers pages s.1) order

-- the answer is whether page p has other items in the one than in the other
abbrev pub IsChangedAt : Items → Items → ℕ → Bool → Type 0
IsChangedAt before after p answer = (answer ≡ true → page_items before p ≡ page_items after p → ⊥) × (answer ≡ false → page_items before p ≡ page_items after p)

-- the set has just the pages that have other items in the one than in the other
abbrev pub AreChanged : List Bool → Items → Items → Type 0
AreChanged pages before after = (p : ℕ) → p < page_count → IsChangedAt before after p (has_page pages p)
