-- A lane between two processes, over any number of connections.
use Rattle.std.specs.Prelude.{◌≡◌, ℕ, ◌+◌, ◌≤◌, List, [], ◌∷◌, ◌++◌, length, false, Option, Some, None, All, Contains, slice_get, slice_set}
use Rattle.links.specs.declared.receiving.Receiving.{Receiving}
use Rattle.links.specs.Numbered.{Numbered, IsBeginningOf}
use Rattle.links.specs.Sending.{SendingView, IsNextToHandOut, with_letter, with_said, with_acknowledged, on_new_connection}
use Rattle.links.specs.Receiving.{Receives, on_accepted_connection}

-- a sender and a receiver, in one life of each, and what is between them
pub record LaneView : Type 0 where
  pub sending : SendingView
  pub receiving : Receiving
  -- for each connection, the newest first, what was handed out on it and has not come, in order
  pub ways : List (List Numbered)
  -- the acknowledgements that were said
  pub acknowledgements : List ℕ
  -- all letters that were pushed and not refused, in order
  pub pushed : List (List ℕ)
  -- all letters that were given, in order
  pub received : List (List ℕ)

-- what may happen
pub data LaneEvent : Type 0 where
  -- this letter was pushed
  Pushed : List ℕ → LaneEvent
  -- a letter was refused
  Refused : LaneEvent
  -- a connection was made, as its initiator has it
  Connected : LaneEvent
  -- this letter was handed out
  HandedOut : Numbered → LaneEvent
  -- a connection was made, as its responder has it
  Accepted : LaneEvent
  -- this letter came on the connection at this place, and was given or let go
  Came : ℕ → Numbered → Option Numbered → LaneEvent
  -- this acknowledgement was said
  Said : ℕ → LaneEvent
  -- this acknowledgement came
  Heard : ℕ → LaneEvent

-- one more was handed out on the newest connection
abbrev pub on_newest : Numbered → List (List Numbered) → List (List Numbered)
on_newest x [] = (x ∷ []) ∷ []
on_newest x (way ∷ older) = (way ++ x ∷ []) ∷ older

-- what has not come on the newest connection
abbrev pub newest : List (List Numbered) → List Numbered
newest [] = []
newest (way ∷ older) = way

-- the letters of what was given
abbrev pub letters_given : Option Numbered → List (List ℕ)
letters_given None = []
letters_given (Some x) = x.1 ∷ []

-- What each event is. On a connection only the next one of those that were handed out on it comes, so that what came is a
-- beginning of that. An acknowledgement comes if it was said, on any connection.
abbrev pub Happens : LaneView → LaneEvent → LaneView → Type 0
Happens old (Pushed letter) new = new ≡ record old { sending = with_letter letter old.sending; pushed = old.pushed ++ letter ∷ [] }
Happens old Refused new = (lost : ℕ) × (new ≡ record old { sending = record old.sending { lost = lost } })
Happens old Connected new = new ≡ record old { sending = on_new_connection old.sending; ways = [] ∷ old.ways }
Happens old (HandedOut x) new = IsNextToHandOut old.sending x × (new ≡ record old { sending = with_said x.0 old.sending; ways = on_newest x old.ways })
Happens old Accepted new = new ≡ record old { receiving = on_accepted_connection old.receiving }
Happens old (Came k x given) new =
    (way : List Numbered) × (r : Receiving) × (slice_get old.ways k ≡ Some (x ∷ way)) × Receives old.receiving x given r
    × (new ≡ record old { receiving = r; ways = slice_set old.ways k way; received = old.received ++ letters_given given })
Happens old (Said n) new = (n ≡ old.receiving.last) × (new ≡ record old { receiving = record old.receiving { is_due = false }; acknowledgements = old.acknowledgements ++ n ∷ [] })
Happens old (Heard n) new = Contains old.acknowledgements n × (new ≡ record old { sending = with_acknowledged n old.sending })

-- these events happened, one after the other
abbrev pub HappensAll : LaneView → List LaneEvent → LaneView → Type 0
HappensAll old [] new = new ≡ old
HappensAll old (e ∷ events) new = (mid : LaneView) × Happens old e mid × HappensAll mid events new

-- Nothing was handed out, nothing came, and what is held is all that was pushed.
pub record IsNewLane (l : LaneView) : Type 0 where
  pub acknowledged : l.sending.acknowledged ≡ 0
  pub said : l.sending.said ≡ 0
  pub reached : l.sending.reached ≡ 0
  pub last : l.receiving.last ≡ 0
  pub ways : l.ways ≡ []
  pub acknowledgements : l.acknowledgements ≡ []
  pub pushed : l.pushed ≡ l.sending.held
  pub received : l.received ≡ []

-- Letters come through a lane.
pub record IsSound (l : LaneView) : Type 0 where
  -- those that were given are a beginning of those that were pushed: none is changed, moved, left out or given twice
  pub in_order : IsBeginningOf l.received l.pushed
  -- none is lost: those that were pushed are these, which were given, and then those that are held
  pub acknowledged : List (List ℕ)
  pub kept : l.pushed ≡ acknowledged ++ l.sending.held
  pub given : IsBeginningOf acknowledged l.received
  -- no letter that comes next on a connection is missing others before it
  pub follows : (k : ℕ) (x : Numbered) (way : List Numbered) → slice_get l.ways k ≡ Some (x ∷ way) → x.0 ≤ l.receiving.last + 1
  -- each acknowledgement is of a letter that was handed out
  pub sent : All (λ n. n ≤ l.sending.reached) l.acknowledgements
  -- if all that is held was handed out on the newest connection and has come, all that was pushed was given
  pub whole : newest l.ways ≡ [] → l.sending.said ≡ l.sending.acknowledged + length l.sending.held → l.received ≡ l.pushed

-- Whatever happens on a lane, over any number of connections, letters come through.
abbrev pub LettersComeThrough : Type 0
LettersComeThrough = (old : LaneView) (events : List LaneEvent) (new : LaneView) → IsNewLane old → HappensAll old events new → IsSound new
