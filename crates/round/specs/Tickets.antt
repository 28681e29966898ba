-- The steps of a round in the order of their tickets, and the log of each page and of each caller.
use Rattle.std.specs.Prelude.{◌≡◌, ℕ, ◌+◌, ◌%◌, ◌^◌, ◌<◌, ◌≤◌, ◌==◌, ◌||◌, Bool, true, false, List, [], ◌∷◌, ◌++◌, length, slice_index}
use Rattle.std.specs.List.{filter}
use mathlib.Core.Option.{Option, none, some}
use lib.ListN.{get_elem?}
use Rattle.atomic_table.specs.Table.{Me}
use Rattle.pages.specs.Page.{page_count}
use Rattle.round.specs.declared.rule.Entry.{Entry}
use Rattle.round.specs.declared.rule.Held.{Held}
use Rattle.round.specs.declared.rule.View.{View}

-- pages are named by their numbers, and callers by the numbers from there on
abbrev pub name_of_caller : ℕ → ℕ
name_of_caller caller = page_count + caller

-- the step is one of this page or of this caller
abbrev pub touches : ℕ → Entry → Bool
touches name e = (e.page == name) || (e.caller == name)

-- the steps of one page or caller, in order
abbrev pub log_of : ℕ → List Entry → List Entry
log_of name order = filter (touches name) order

abbrev pub held : ℕ → List Entry → Held
held name log = record { name = name; log = log }

-- who makes the names, this one next
abbrev pub maker : ℕ → View
maker next = record { held = []; next = next; makes = true }

-- who knows the log of one page or caller
abbrev pub name_view : ℕ → List Entry → View
name_view name log = record { held = held name log ∷ []; next = 0; makes = false }

abbrev pub pair_view : ℕ → List Entry → ℕ → List Entry → View
pair_view p l c m = record { held = held p l ∷ held c m ∷ []; next = 0; makes = false }

-- who knows nothing
abbrev pub spent : View
spent = record { held = []; next = 0; makes = false }

abbrev pub both : View → View → View
both v w = record { held = v.held ++ w.held; next = v.next; makes = v.makes }

abbrev pub first_of_held : List Held → List Held
first_of_held [] = []
first_of_held (h ∷ hs) = h ∷ []

abbrev pub others_of_held : List Held → List Held
others_of_held [] = []
others_of_held (h ∷ hs) = hs

abbrev pub page_part : View → View
page_part v = record { held = first_of_held v.held; next = 0; makes = false }

abbrev pub caller_part : View → View
caller_part v = record { held = others_of_held v.held; next = 0; makes = false }

-- the maker, after it made a name
abbrev pub made : View → View
made v = record { held = v.held; next = v.next + 1; makes = v.makes }

-- pages have the numbers below the number of pages, and callers those from there on
abbrev pub Kinds : List Entry → Type 0
Kinds [] = Unit {0}
Kinds (e ∷ es) = (e.page < page_count) × (page_count ≤ e.caller) × Kinds es

-- each log that is held is whole, and nobody else holds it
abbrev pub Hold : List Entry → (ℕ → Option ℕ) → ℕ → List Held → Type 0
Hold order owner seat [] = Unit {0}
Hold order owner seat (h ∷ hs) = (owner h.name ≡ some seat) × (h.log ≡ log_of h.name order) × Hold order owner seat hs

-- each log is whole
abbrev pub AreLogs : List Entry → List Held → Type 0
AreLogs order [] = Unit {0}
AreLogs order (h ∷ hs) = (h.log ≡ log_of h.name order) × AreLogs order hs

-- A token knows whole logs alone; who makes names knows that those to come have no step.
pub record IsKnowledge (order : List Entry) (owner : ℕ → Option ℕ) (master seat : ℕ) (v : View) : Type 0 where
  pub holds : Hold order owner seat v.held
  pub makes : v.makes ≡ true → (seat ≡ master) × ((n : ℕ) → v.next ≤ n → (owner n ≡ none) × (log_of n order ≡ []))

-- There is one order of all steps; the word is its length. Each page and each caller is known to one token, with its steps.
pub record TicketRule (words : List ℕ) (views : List View) : Type 0 where
  pub order : List Entry
  pub owner : ℕ → Option ℕ
  pub master : ℕ
  pub one : length words ≡ 1
  pub counted : slice_index words 0 ≡ length order % 2 ^ 64
  pub kinds : Kinds order
  pub fits : (seat : ℕ) (v : View) → get_elem? views seat ≡ some v → IsKnowledge order owner master seat v

abbrev pub grow : Entry → List Held → List Held
grow e [] = []
grow e (h ∷ hs) = held h.name (h.log ++ e ∷ []) ∷ grow e hs

-- the view after a step, which is in each log that it holds
abbrev pub grown : Entry → View → View
grown e v = record { held = grow e v.held; next = v.next; makes = v.makes }

abbrev pub Drew : Entry → Me ℕ View → ℕ → Me ℕ View → Type 0
Drew e m n w = w ≡ (grown e m.0, m.1)

-- One order of all steps, as far as a token knows: each log that it holds is whole.
pub record Known (v : View) : Type 0 where
  pub order : List Entry
  pub kinds : Kinds order
  pub logs : AreLogs order v.held
  pub none_to_come : v.makes ≡ true → (n : ℕ) → v.next ≤ n → log_of n order ≡ []

-- nothing changed, and there is an order of all steps
abbrev pub Learned : Me ℕ View → ℕ → Me ℕ View → Type 0
Learned m n w = (w ≡ m) × Known m.0

abbrev pub log_in : List Held → List Entry
log_in [] = []
log_in (h ∷ hs) = h.log

-- the log of a token with one name
abbrev pub view_log : View → List Entry
view_log v = log_in v.held
