-- The record of a state, by itself and over the state before it.
use Rattle.std.specs.Prelude.{ℕ, Bool, true, false, List, [], ◌∷◌, ◌≡◌, ◌<◌, ◌++◌, flat_map, Option, Some, None, Result, Ok, Err, if◌then◌else◌}
use Rattle.std.specs.List.{range_with_len}
use Rattle.std.specs.Str.{bytes_eq}
use Rattle.std.specs.FinMap.{entries}
use Rattle.base.specs.declared.fault.Fault.{Fault}
use Rattle.items.specs.declared.item.Item.{Item}
use Rattle.items.specs.Map.{Items}
use Rattle.sessions.specs.Fresh.{Replies}
use Rattle.batches.specs.declared.batch.Batch.{Batch}
use Rattle.wire.specs.Record.{Refused}
use Rattle.wire.specs.Field.{option_text}
use Rattle.wire.specs.Item.{page_text}
use Rattle.wire.specs.Session.{sessions_text}
use Rattle.token.specs.Token.{token_bytes}
use Rattle.pages.specs.Page.{page_items, page_count}
use Rattle.pages.specs.Layout.{text_in}
use Rattle.pages.specs.Form.{layout_of}
use Rattle.pages.specs.Others.{has_page}
use Rattle.pages.specs.declared.layout.Layout.{Layout}
use Rattle.states.specs.declared.head.Head.{Head}
use Rattle.states.specs.State.{StateView, IsState, initial_state}
use Rattle.states.specs.Origin.{origin_of, state_from, told_text, origin_text}
use Rattle.states.specs.Followed.{IsSuccessor}

-- all of a state but its sessions and its items
abbrev pub head_of_state : StateView → Head
head_of_state s = record { origin = origin_of s; token = s.token }

-- a head of version 1, which has no form
abbrev pub old_head_text : Head → List ℕ
old_head_text h = told_text h.origin ++ token_bytes h.token

unfoldable pub head_text : Head → List ℕ
head_text h = origin_text h.origin ++ token_bytes h.token

-- the state of this head, these sessions and items
abbrev pub state_of : Head → Replies → Items → StateView
state_of h sessions items = state_from h.origin h.token sessions items

-- a text of each page, by number
abbrev pub each_page : (ℕ → List ℕ) → List ℕ
each_page text = flat_map text (range_with_len 0 page_count)

unfoldable pub pages_text : Layout → Items → List ℕ
pages_text layout m = each_page (λ p. text_in layout (page_items m p))

unfoldable pub state_text : StateView → List ℕ
state_text s = head_text (head_of_state s) ++ sessions_text s.sessions ++ pages_text (layout_of s.form) s.items

-- entries that are not the same as before; those with one text are the same
abbrev pub changed_page : List (List ℕ × Item) → List (List ℕ × Item) → Option (List (List ℕ × Item))
changed_page before after = if bytes_eq (page_text before) (page_text after) then None else Some after

-- the same of items
abbrev pub changed_items : Items → Items → Option Items
changed_items before after = if bytes_eq (page_text (entries before)) (page_text (entries after)) then None else Some after

-- 0 for the same page, or 1 and the page in this layout
abbrev pub change_text : Layout → Items → Items → List ℕ
change_text layout before after = option_text (text_in layout) (changed_items before after)

unfoldable pub changes_text : Layout → Items → Items → List ℕ
changes_text layout before after = each_page (λ p. change_text layout (page_items before p) (page_items after p))

-- a page that is in the set is 1 and its text in this layout, and another one 0
abbrev pub flagged_page : Layout → Bool → Items → List ℕ
flagged_page layout true m = 1 ∷ text_in layout m
flagged_page layout false m = 0 ∷ []

unfoldable pub flagged_text : Layout → List Bool → Items → List ℕ
flagged_text layout changed m = each_page (λ p. flagged_page layout (has_page changed p) (page_items m p))

-- a state over the items of the state before it
unfoldable pub after_text : Items → StateView → List ℕ
after_text before s = head_text (head_of_state s) ++ sessions_text s.sessions ++ changes_text (layout_of s.form) before s.items

-- a state that no batch led to, and one that a batch led to
abbrev pub IsFirstState : StateView → Type 0
IsFirstState s = s ≡ initial_state

pub record IsLaterState (s : StateView) : Type 0 where
  pub state : IsState s
  pub later : 0 < s.number

-- the state of this head, these sessions and items, if a batch led to it
abbrev pub MakesLater : Head → Replies → Items → Result StateView Fault → Type 0
MakesLater h sessions items (Ok s) = IsLaterState s × (s ≡ state_of h sessions items)
MakesLater h sessions items (Err e) = Refused e (IsLaterState (state_of h sessions items) → ⊥)

-- the same, if this batch made it of this state
abbrev pub MakesSuccessor : StateView → Batch → Head → Replies → Items → Result StateView Fault → Type 0
MakesSuccessor old batch h sessions items (Ok s) = IsSuccessor old batch s × (s ≡ state_of h sessions items)
MakesSuccessor old batch h sessions items (Err e) = Refused e (IsSuccessor old batch (state_of h sessions items) → ⊥)
