-- Pages, each of its own keys alone, and the map that they are together.
use Rattle.std.specs.Prelude.{◌≡◌, ◌≢◌, ℕ, ◌+◌, List, [], ◌∷◌, map, length, None, All, true}
use Rattle.std.specs.List.{flat_map}
use Rattle.std.specs.FinMap.{entries, from_entries, get}
use Rattle.items.specs.Map.{Items}
use Rattle.pages.specs.Page.{PageState, page_number, page_count, page_items, page_digest_in, of_each}
use Rattle.pages.specs.declared.layout.Layout.{Layout}

-- only keys of page p are in it
abbrev pub IsOwn : ℕ → Items → Type 0
IsOwn p m = (key : List ℕ) → page_number key ≢ p → get m key ≡ None

-- each page, from page p on, has its own keys alone
abbrev pub AreOwn : ℕ → List Items → Type 0
AreOwn p [] = Unit {0}
AreOwn p (m ∷ pages) = IsOwn p m × AreOwn (p + 1) pages

abbrev pub ArePages : List Items → Type 0
ArePages pages = (length pages ≡ page_count) × AreOwn 0 pages

-- the map of all pages
abbrev pub joined_pages : List Items → Items
joined_pages pages = from_entries (flat_map entries pages)

-- the pages of a map
abbrev pub parts : Items → List Items
parts m = of_each (page_items m)

-- what the pages contain, whatever is kept of their digests
abbrev pub items_of : List PageState → List Items
items_of pages = map (λ page. page.items) pages

-- Pages that are all in this layout, and of which each digest is kept.
pub record AreSealed (layout : Layout) (pages : List PageState) : Type 0 where
  pub are : ArePages (items_of pages)
  pub laid : All (λ page. page.layout ≡ layout) pages
  pub digests : All (λ page. page.sealed ≡ true) pages

-- Such pages beside their digests.
pub record IsSnapshot (layout : Layout) (pages : List PageState) (digests : List (List ℕ)) : Type 0 where
  pub sealed : AreSealed layout pages
  pub told : digests ≡ of_each (page_digest_in layout (joined_pages (items_of pages)))
