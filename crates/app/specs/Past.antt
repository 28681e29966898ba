-- What happened in a world so far.
use Rattle.std.specs.Prelude.{◌≡◌, ℕ, zero, suc, ◌-◌, ◌<◌, Bool, true, false, List, [], ◌∷◌, ◌++◌, length, replicate, Option, None, Some, slice_get, slice_set}
use Rattle.events.specs.declared.event.Event.{Event}
use Rattle.events.specs.declared.event.Event.TheVariants.{Deliver}

pub record PastView : Type 0 where
  -- all that happened, in this order
  pub events : List Event
  -- one mark for each letter that was sent: whether an event delivered it
  pub delivered : List Bool

-- the letter of this number is delivered, if it was sent; letters are numbered from 1
abbrev pub marked_at : List Bool → ℕ → List Bool
marked_at marks zero = marks
marked_at marks (suc i) = slice_set marks i true

-- a letter that comes is delivered, whatever becomes of the node that it is for
abbrev pub marked_by : List Bool → Event → List Bool
marked_by marks (Deliver letter) = marked_at marks letter
marked_by marks event = marks

-- so many letters were sent by now, and no event delivered the new ones
abbrev pub extended : List Bool → ℕ → List Bool
extended marks sent = marks ++ replicate (sent - length marks) false

-- before the first event
abbrev pub first_past : ℕ → PastView
first_past sent = record { events = []; delivered = extended [] sent }

abbrev pub past_after : PastView → Event → ℕ → PastView
past_after past event sent = record {
  events = past.events ++ event ∷ [];
  delivered = extended (marked_by past.delivered event) sent;
}

abbrev pub AllMarkedBelow : ℕ → List Bool → Type 0
AllMarkedBelow n marks = (i : ℕ) → i < n → slice_get marks i ≡ Some true

-- the lowest letter that no event delivered, if there is one
abbrev pub IsNextLetter : List Bool → Option ℕ → Type 0
IsNextLetter marks None = AllMarkedBelow (length marks) marks
IsNextLetter marks (Some zero) = ⊥
IsNextLetter marks (Some (suc i)) = (slice_get marks i ≡ Some false) × AllMarkedBelow i marks
