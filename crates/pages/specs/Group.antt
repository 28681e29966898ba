-- Groups of pages, and pages of which some groups were written.
use Rattle.std.specs.Prelude.{◌≡◌, ℕ, ◌<◌, ◌+◌, ◌*◌, List, [], Bool, true, false, length, slice_index_or, slice_set}
use Rattle.std.specs.List.{flat_map, AllByRecursion}
use Rattle.std.specs.FinMap.{empty}
use Rattle.pages.specs.Page.{PageState, page_count}
use Rattle.pages.specs.Layout.{digest_in}
use Rattle.pages.specs.Joined.{ArePages, items_of}
use Rattle.pages.specs.declared.layout.Layout.{Layout}
use Rattle.pages.specs.declared.layout.Layout.TheVariants.{Sorted}
use Rattle.pages.specs.declared.group.TheConstants.{GROUPS, GROUP_PAGES}

-- all pages of the groups, in the order of their numbers
abbrev pub pages_in : List (List PageState) → List PageState
pages_in groups = flat_map (λ group. group) groups

-- each list has as many members as a group has pages
abbrev pub AreLong : {X : Type 0} → List (List X) → Type 0
AreLong lists = AllByRecursion (λ list. length list ≡ GROUP_PAGES) lists

-- As many groups as a store has, each of as many pages.
pub record AreGroups (groups : List (List PageState)) : Type 0 where
  pub count : length groups ≡ GROUPS
  pub each : AreLong groups

abbrev pub no_page : PageState
no_page = record { items = empty; layout = Sorted; sealed = false }

-- page k
abbrev pub page_at : List PageState → ℕ → PageState
page_at pages k = slice_index_or pages k no_page

-- page i of group g, from 0
abbrev pub page_in_group : ℕ → ℕ → ℕ
page_in_group g i = GROUP_PAGES * g + i

-- no page but page k differs
abbrev pub IsEditAt : ℕ → List PageState → List PageState → Type 0
IsEditAt k old new = new ≡ slice_set old k (page_at new k)

-- a page in this layout whose digest is kept, and is this one
abbrev pub IsKeptPage : Layout → PageState → List ℕ → Type 0
IsKeptPage layout page leaf = (page.layout ≡ layout) × (page.sealed ≡ true) × (leaf ≡ digest_in layout page.items)

-- Pages beside their digests, as many as a store has. Of a group that is not marked as written each page is in this layout, and its digest is kept, and is the one beside it.
pub record AreUnwrittenKept (layout : Layout) (pages : List PageState) (digests : List (List ℕ)) (written : List Bool) : Type 0 where
  pub are : ArePages (items_of pages)
  pub count : length digests ≡ page_count
  pub same : (g i : ℕ) → g < GROUPS → i < GROUP_PAGES → slice_index_or written g false ≡ false → IsKeptPage layout (page_at pages (page_in_group g i)) (slice_index_or digests (page_in_group g i) [])
