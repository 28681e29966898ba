-- The page of a key, the page's part of a map, and what is kept of a page.
use Rattle.std.specs.Prelude.{◌<◌, ◌⊎◌, ℕ, Bool, true, nat_lt, length, IsTrue, List, Option, IfSome, map, sum, filter, ◌%◌, ◌==◌, refl}
use Rattle.std.specs.Coded.{Coded, code_by, coded×, coded_bool}
use Rattle.std.specs.List.{range_with_len, flat_map}
use Rattle.std.specs.FinMap.{entries, from_sorted, get}
use Rattle.std.specs.Option.{is_some}
use Rattle.items.specs.declared.item.Item.{Item}
use Rattle.items.specs.Map.{Items, alive}
use Rattle.wire.specs.Item.{page_text, PageFits}
use Rattle.token.specs.Digest.{digest}
use Rattle.token.specs.declared.tree.TheConstants.{PAGES}
use Rattle.token.specs.Digested.{DigestedView, IsDigested}
use Rattle.pages.specs.Layout.{digest_in}
use Rattle.pages.specs.declared.layout.Layout.{Layout}
use Rattle.pages.specs.declared.page.TheConstants.{MOST_ENTRIES}

abbrev pub page_count : ℕ
page_count = PAGES

-- a page of these items may have one at the key: it has one there, or fewer than it has at most
abbrev pub HasRoom : Items → List ℕ → Type 0
HasRoom m key = (length (entries m) < MOST_ENTRIES) ⊎ IsTrue (is_some (get m key))

-- the sum of its bytes, modulo so many pages
abbrev pub number_among : ℕ → List ℕ → ℕ
number_among count key = sum key % count

-- of so many pages the entries of page p, in the order of their keys
abbrev pub entries_among : ℕ → Items → ℕ → List (List ℕ × Item)
entries_among count m p = filter (λ e. number_among count e.0 == p) (entries m)

-- the digest of page p, from scratch
abbrev pub digest_among : ℕ → Items → ℕ → List ℕ
digest_among count m p = digest (page_text (entries_among count m p))

-- something of each of so many pages, by number
abbrev pub each_among : {X : Type 0} → ℕ → (ℕ → X) → List X
each_among count of_page = map of_page (range_with_len 0 count)

-- the same of the pages that a store has
abbrev pub page_number : List ℕ → ℕ
page_number key = number_among page_count key

abbrev pub page_entries : Items → ℕ → List (List ℕ × Item)
page_entries m p = entries_among page_count m p

-- the map of the entries of page p
abbrev pub page_items : Items → ℕ → Items
page_items m p = from_sorted (page_entries m p)

abbrev pub page_digest : Items → ℕ → List ℕ
page_digest m p = digest_among page_count m p

abbrev pub of_each : {X : Type 0} → (ℕ → X) → List X
of_each of_page = each_among page_count of_page

-- What is kept of a page: its items, in a layout, and whether their digest was made since the last write.
pub record PageState : Type 0 where
  pub items : Items
  pub layout : Layout
  pub sealed : Bool

-- a page is identified by these
abbrev pub page_code : Coded Items → Coded Layout → Coded PageState
page_code items layout =
    code_by ((Items × Layout) × Bool) (coded× (coded× items layout) coded_bool) (λ a. ((a.items, a.layout), a.sealed)) (λ p. record { items = p.0.0; layout = p.0.1; sealed = p.1 }) (λ _. refl)

-- the same items in this layout, with their digest
abbrev pub sealed_in : Layout → PageState → PageState
sealed_in layout page = record { items = page.items; layout = layout; sealed = true }

-- a page whose digest was made
abbrev pub refreshed : PageState → PageState
refreshed page = sealed_in page.layout page

-- Items, all in one layout.
pub record Laid : Type 0 where
  pub items : Items
  pub layout : Layout

abbrev pub laid_code : Coded Items → Coded Layout → Coded Laid
laid_code items layout = code_by (Items × Layout) (coded× items layout) (λ a. (a.items, a.layout)) (λ p. record { items = p.0; layout = p.1 }) (λ _. refl)

-- the digest of page p in this layout, from scratch
abbrev pub page_digest_in : Layout → Items → ℕ → List ℕ
page_digest_in layout m p = digest_in layout (page_items m p)

-- Each page has a text, and if a digest is kept it is that of the items now, and a text beside it is theirs.
pub record IsPage (items : Items) (digested : Option DigestedView) : Type 0 where
  pub fits : PageFits (entries items)
  pub from_scratch : IfSome digested (IsDigested (page_text (entries items)))

-- how many items pages have
abbrev pub item_count : List Items → ℕ
item_count pages = length (flat_map entries pages)

-- something of the page is due at the moment
abbrev pub is_due : ℕ → Items → Bool
is_due moment page = nat_lt (length (entries (alive page moment))) (length (entries page))

-- how many items there are in the pages of which something is due: their entries are copied or walked to drop it
abbrev pub beside_due : ℕ → List Items → ℕ
beside_due moment pages = item_count (filter (is_due moment) pages)
