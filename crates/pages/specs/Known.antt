-- What is known of the pages of a group, so that they need not be looked at: how many items they have, and when something is due first.
use Rattle.std.specs.Prelude.{◌≡◌, ℕ, ◌<◌, ◌≤◌, ◌^◌, List}
use Rattle.items.specs.Map.{alive}
use Rattle.pages.specs.Page.{PageState, item_count}
use Rattle.pages.specs.Joined.{items_of}
use Rattle.pages.specs.Group.{page_at}
use Rattle.pages.specs.declared.group.TheConstants.{GROUP_PAGES}

-- nothing of the page is due at the moment or before it
abbrev pub IsStill : ℕ → PageState → Type 0
IsStill moment page = alive page.items moment ≡ page.items

-- nothing of the pages of a group
abbrev pub AreStill : ℕ → List PageState → Type 0
AreStill moment pages = (i : ℕ) → i < GROUP_PAGES → IsStill moment (page_at pages i)

-- The pages have so many items, and nothing of them is due before this time.
pub record IsKnownGroup (pages : List PageState) (len first_due : ℕ) : Type 0 where
  pub counted : len ≡ item_count (items_of pages)
  pub few : len ≤ 2 ^ 36
  pub still : (moment : ℕ) → moment < first_due → AreStill moment pages
