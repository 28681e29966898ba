-- What contracts see of a socket, and what it tells the service.
use Rattle.std.specs.Prelude.{◌≡◌, ◌≢◌, ◌⊎◌, ◌↔◌, ℕ, ◌+◌, ◌<◌, ◌≤◌, Bool, true, false, List, [], ◌∷◌, ◌++◌, length, flat_map, sum_by, All, Result, if◌then◌else◌}
use Rattle.std.specs.declared.io.Error.{Error}
use Rattle.loop_messages.specs.declared.message.Heard.{Heard}
use Rattle.loop_messages.specs.declared.message.Heard.TheVariants.{Came, Bytes, Written, Left}
use Rattle.loop_messages.specs.declared.message.TheConstants.{MOST_UNWRITTEN}
use Rattle.event_loop.specs.declared.input.Piece.{Piece}
use Rattle.event_loop.specs.Input.{IsEmptied, IsEnd}
use Rattle.event_loop.specs.Traffic.{Traffic, IsWritten, One, IsFailed, IsBlocked}

pub record SocketView : Type 0 where
  pub number : ℕ
  pub traffic : Traffic
  -- the bytes of it that were reported to the service
  pub told : List ℕ
  -- how much was said to it since it was last reported that all is written
  pub untold : ℕ
  pub is_readable : Bool
  pub is_writable : Bool
  pub is_read_closed : Bool
  pub is_outstanding : Bool
  pub closes : Bool
  pub has_ended : Bool
  pub is_listed : Bool

-- all that reads gave was reported to the service. If memory for the last bytes ran out, the socket has ended
pub record IsSocket (s : SocketView) : Type 0 where
  pub all : s.has_ended ≡ false → s.told ≡ s.traffic.got
  pub lost : List ℕ
  pub first : s.traffic.got ≡ s.told ++ lost

-- nothing was read of a new socket, and nothing was said to it
abbrev pub new_socket : ℕ → Traffic → SocketView
new_socket n t = record { number = n; traffic = t; told = []; untold = 0; is_readable = false; is_writable = true; is_read_closed = false; is_outstanding = false; closes = false; has_ended = false; is_listed = false }

-- a message about the socket of this key and number that is still here
abbrev pub IsAbout : ℕ → ℕ → Heard → Type 0
IsAbout key number (Came k n) = ⊥
IsAbout key number (Bytes k n bytes) = (k ≡ key) × (n ≡ number)
IsAbout key number (Written k n count) = (k ≡ key) × (n ≡ number) × (MOST_UNWRITTEN ≤ count)
IsAbout key number (Left k n) = ⊥

-- the bytes that a message tells of
abbrev pub bytes_told_by : Heard → List ℕ
bytes_told_by (Came k n) = []
bytes_told_by (Bytes k n bytes) = bytes.items
bytes_told_by (Written k n count) = []
bytes_told_by (Left k n) = []

abbrev pub told_in : List Heard → List ℕ
told_in messages = flat_map bytes_told_by messages

-- the bytes that a message tells of as written
abbrev pub written_told_by : Heard → ℕ
written_told_by (Came k n) = 0
written_told_by (Bytes k n bytes) = 0
written_told_by (Written k n count) = count
written_told_by (Left k n) = 0

-- what waited was written up to some byte, and nothing else happened
pub record SocketWrites (old new : SocketView) : Type 0 where
  pub piece : List ℕ
  pub traffic : IsWritten old.traffic piece new.traffic
  pub ended : old.has_ended ≡ true → new.has_ended ≡ true
  -- what came of the writes: the socket ends by one that failed, and rests from one that was to wait
  pub results : List (Result ℕ Error)
  pub writes : new.traffic.writes ≡ old.traffic.writes ++ results
  pub failed : One IsFailed results → new.has_ended ≡ true
  pub only_failed : new.has_ended ≡ true → (old.has_ended ≡ true) ⊎ One IsFailed results
  pub blocked : old.is_writable ≡ true → (new.is_writable ≡ true) ⊎ One IsBlocked results
  pub others : new ≡ record old { traffic = new.traffic; is_writable = new.is_writable; has_ended = new.has_ended }

-- one read was made, and its bytes were reported or are lost
pub record SocketReads (old new : SocketView) : Type 0 where
  pub piece : Piece
  pub reads : new.traffic.reads ≡ old.traffic.reads ++ piece ∷ []
  pub writes : new.traffic.writes ≡ old.traffic.writes
  pub failed : IsEnd piece → new.has_ended ≡ true
  pub only_failed : new.has_ended ≡ true → IsEnd piece ⊎ (new.told ≢ new.traffic.got)
  pub emptied : (new.is_readable ≡ true) ⊎ IsEmptied piece
  pub outstanding : (new.is_outstanding ≡ true) ↔ (length old.told < length new.told)
  pub others : new ≡ record old { traffic = new.traffic; told = new.told; is_readable = new.is_readable; is_outstanding = new.is_outstanding; has_ended = new.has_ended }

-- the socket went from old to new, and the messages of the service from `before` to `after`
pub record Tells (key : ℕ) (old new : SocketView) (before after : List Heard) : Type 0 where
  pub more : List Heard
  pub heard : after ≡ before ++ more
  pub about : All (IsAbout key old.number) more
  -- each byte that was reported is in one of them, in order
  pub told : new.told ≡ old.told ++ told_in more
  -- what was not reported as written is reported in one of them, or is still to be reported
  pub untold : sum_by written_told_by more + new.untold ≡ old.untold
  pub said : new.traffic.said ≡ old.traffic.said
  pub number : new.number ≡ old.number
  pub closes : new.closes ≡ old.closes
  pub ended : old.has_ended ≡ true → new.has_ended ≡ true

-- that it has ended is reported last, unless the service has closed it
abbrev pub last_told : ℕ → SocketView → List Heard
last_told key s = if s.closes then [] else (Left key s.number ∷ [])

pub record Leaves (key : ℕ) (old new : SocketView) (before after : List Heard) : Type 0 where
  pub between : List Heard
  pub tells : Tells key old new before between
  pub left : after ≡ between ++ last_told key new

-- it has failed, its other side has closed it, or all was written after which it is to be closed
abbrev pub IsSocketOver : SocketView → Type 0
IsSocketOver s = (s.has_ended ≡ true) ⊎ ((s.closes ≡ true) × (length s.traffic.waits ≡ 0))

-- something can be written at once
pub record MayBeWritten (s : SocketView) : Type 0 where
  pub waits : 0 < length s.traffic.waits
  pub is_writable : s.is_writable ≡ true
  pub is_here : s.has_ended ≡ false

-- it can be read at once
pub record MayBeRead (s : SocketView) : Type 0 where
  pub is_readable : s.is_readable ≡ true
  pub is_done_with : s.is_outstanding ≡ false
  pub is_written : length s.traffic.waits ≡ 0
  pub stays : s.closes ≡ false
  pub is_here : s.has_ended ≡ false

-- nothing is owed to either side
pub record IsQuiet (s : SocketView) : Type 0 where
  pub has_no_visit : s.is_listed ≡ false
  pub is_done_with : s.is_outstanding ≡ false
  pub is_written : length s.traffic.waits ≡ 0
  pub stays : s.closes ≡ false
  pub is_here : s.has_ended ≡ false

-- nothing is to be done until an event comes or the service says something
pub record SocketRests (s : SocketView) : Type 0 where
  pub is_here : IsSocketOver s → ⊥
  pub writes : MayBeWritten s → ⊥
  pub reads : MayBeRead s → ⊥
  -- the service knows that all is written, if it may wait for it
  pub is_told : length s.traffic.waits ≡ 0 → s.untold < MOST_UNWRITTEN

-- what a visit did to a socket, which may be read in it or not
pub record SocketVisits (may_read : Bool) (old new : SocketView) : Type 0 where
  -- what came of its writes, and what its read gave, if one was made
  pub results : List (Result ℕ Error)
  pub writes : new.traffic.writes ≡ old.traffic.writes ++ results
  pub pieces : List Piece
  pub reads : new.traffic.reads ≡ old.traffic.reads ++ pieces
  pub once : length pieces ≤ 1
  -- what could be written or read was, but nothing is read while the service waits for the report that all is written
  pub is_written : MayBeWritten old → 0 < length results
  pub is_read : may_read ≡ true → MayBeRead old → (0 < length pieces) ⊎ (MOST_UNWRITTEN ≤ new.untold)
  -- it ends by a write or a read, or since bytes that it read are lost
  pub ended : new.has_ended ≡ true → (old.has_ended ≡ true) ⊎ One IsFailed results ⊎ One IsEnd pieces ⊎ (new.told ≢ new.traffic.got)
  pub failed : One IsFailed results ⊎ One IsEnd pieces → new.has_ended ≡ true
  -- it rests from writes or reads only if the stream says so
  pub blocked : old.is_writable ≡ true → (new.is_writable ≡ true) ⊎ One IsBlocked results
  pub emptied : old.is_readable ≡ true → (new.is_readable ≡ true) ⊎ One IsEmptied pieces
  -- the service has bytes of it if it had before, or more were reported to it
  pub outstanding : (new.is_outstanding ≡ true) ↔ ((old.is_outstanding ≡ true) ⊎ (length old.told < length new.told))
  pub others : new ≡ record old { traffic = new.traffic; told = new.told; untold = new.untold; is_readable = new.is_readable; is_writable = new.is_writable; is_outstanding = new.is_outstanding; has_ended = new.has_ended; is_listed = new.is_listed }

-- there is something that has to be reported to the service: that the socket has ended, or that all is written
abbrev pub HasToTell : SocketView → Type 0
HasToTell s = (IsSocketOver s × (s.closes ≡ false)) ⊎ ((length s.traffic.waits ≡ 0) × (MOST_UNWRITTEN ≤ s.untold))
