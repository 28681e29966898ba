-- What several threads leave of seats and pages.
use Rattle.std.specs.Prelude.{◌≡◌, ℕ, ◌<◌, List, length, slice_index_or}
use Rattle.pages.specs.Page.{PageState, refreshed}
use Rattle.round.specs.Sittings.{Sitting}

-- the seats are in the order in which they stood
abbrev pub StayInOrder : List Sitting → List Sitting → Type 0
StayInOrder old new = (i : ℕ) (d : Sitting) → i < length old → (slice_index_or new i d).caller ≡ (slice_index_or old i d).caller

-- each page is as it was, with its digest recomputed
abbrev pub AreRefreshed : List PageState → List PageState → Type 0
AreRefreshed old new = (i : ℕ) (d : PageState) → i < length old → slice_index_or new i d ≡ refreshed (slice_index_or old i d)
