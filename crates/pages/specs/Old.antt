-- The pages of the old form: page p of them has the entries of four of today's pages, whose numbers are p modulo `OLD_PAGES`.
use Rattle.std.specs.Prelude.{◌≡◌, ℕ, ◌/◌, ◌%◌, ◌<◌, List, length, Option, Some, None, IfSome, All, slice_index_or, filter, ◌==◌}
use Rattle.std.specs.FinMap.{empty, from_sorted}
use Rattle.items.specs.declared.item.Item.{Item}
use Rattle.items.specs.Map.{Items}
use Rattle.wire.specs.Item.{EntriesFit}
use Rattle.token.specs.declared.tree.TheConstants.{OLD_PAGES}
use Rattle.pages.specs.Page.{number_among, entries_among, page_number, page_count}

-- the entries of old page p
abbrev pub old_entries : Items → ℕ → List (List ℕ × Item)
old_entries m p = entries_among OLD_PAGES m p

-- which of the four pages of its old page a key is in, from 0
abbrev pub part_of_old : List ℕ → ℕ
part_of_old key = number_among page_count key / OLD_PAGES

-- Entries that old page p of a store may have.
pub record IsOldPage (p : ℕ) (es : List (List ℕ × Item)) : Type 0 where
  pub fit : EntriesFit es
  pub own : All (λ e. number_among OLD_PAGES e.0 ≡ p) es

-- the entries that are given, or else those of the old page as it is
abbrev pub given_or : Items → ℕ → Option (List (List ℕ × Item)) → List (List ℕ × Item)
given_or m p (Some es) = es
given_or m p None = old_entries m p

-- what is given of old page p
abbrev pub given_at : List (Option (List (List ℕ × Item))) → ℕ → Option (List (List ℕ × Item))
given_at given p = slice_index_or given p None

-- page n of a store: that of the entries that are given of its old page, or else the one before
abbrev pub part_given : ℕ → Items → Option (List (List ℕ × Item)) → Items
part_given n before (Some es) = from_sorted (filter (λ e. page_number e.0 == n) es)
part_given n before None = before

-- page n over those before
abbrev pub page_over_old : List Items → List (Option (List (List ℕ × Item))) → ℕ → Items
page_over_old before given n = part_given n (slice_index_or before n empty) (given_at given (n % OLD_PAGES))

-- Of each old page its entries, or nothing.
pub record AreGiven (given : List (Option (List (List ℕ × Item)))) : Type 0 where
  pub count : length given ≡ OLD_PAGES
  pub each : (p : ℕ) → p < OLD_PAGES → IfSome (given_at given p) (IsOldPage p)
