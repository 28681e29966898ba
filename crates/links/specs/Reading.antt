-- What a reader makes of all bytes that came.
use Rattle.std.specs.Prelude.{◌≡◌, ℕ, ◌<◌, ◌≤◌, List, [], ◌++◌, length, take, Option, Some, None, All, flat_map}
use Rattle.links.specs.declared.message_fault.MessageFault.{MessageFault}
use Rattle.links.specs.Numbered.{Numbered}
use Rattle.links.specs.Message.{message_text, IsMessage, IsPartOfMessage, EndsReading}

-- a reader as contracts see it
pub record MessageReaderView : Type 0 where
  -- the most bytes of a text
  pub most : ℕ
  -- what came of the next message
  pub kept : List ℕ
  -- why nothing more is read, if so
  pub end : Option MessageFault

-- what is kept while more may be read
abbrev pub IsKeptPart : Option MessageFault → ℕ → List ℕ → Type 0
IsKeptPart None most kept = IsPartOfMessage most kept
IsKeptPart (Some fault) most kept = kept ≡ []

-- The bytes begin with these messages, and the rest is behind them.
pub record BeginsWithMessages (most : ℕ) (bytes : List ℕ) (messages : List Numbered) (rest : List ℕ) : Type 0 where
  pub split : bytes ≡ flat_map message_text messages ++ rest
  pub each : All (IsMessage most) messages

-- The rest is kept, since it is part of a message; or no message begins it.
abbrev pub IsKeptOrEnds : Option MessageFault → ℕ → List ℕ → List ℕ → Type 0
IsKeptOrEnds None most rest kept = (kept ≡ rest) × IsPartOfMessage most rest
IsKeptOrEnds (Some fault) most rest kept = EndsReading fault most rest

-- All these bytes came, and these messages were read of them: those that the bytes begin with.
pub record HasReadMessages (most : ℕ) (all : List ℕ) (messages : List Numbered) (r : MessageReaderView) : Type 0 where
  pub rest : List ℕ
  pub front : BeginsWithMessages most all messages rest
  pub stands : IsKeptOrEnds r.end most rest r.kept
  pub most_is : r.most ≡ most

-- more messages were read, after these, and are behind others
abbrev pub ReadsMore : ℕ → List ℕ → List Numbered → List Numbered → List Numbered → MessageReaderView → Type 0
ReadsMore most all before old new r = (more : List Numbered) × (new ≡ old ++ more) × HasReadMessages most all (before ++ more) r

-- ---- step by step

-- n bytes were taken, and no message is whole
pub record TakesPartOfMessage (most : ℕ) (kept unread : List ℕ) (n : ℕ) (now : List ℕ) : Type 0 where
  pub some : 0 < n
  pub there : n ≤ length unread
  pub now_is : now ≡ kept ++ take n unread
  pub part : IsPartOfMessage most now

-- n bytes were taken, and with them this message is whole
pub record TakesMessage (most : ℕ) (kept unread : List ℕ) (m : Numbered) (n : ℕ) (now : List ℕ) : Type 0 where
  pub some : 0 < n
  pub there : n ≤ length unread
  pub text_is : kept ++ take n unread ≡ message_text m
  pub message : IsMessage most m
  pub now_is : now ≡ []

abbrev pub StepReads : ℕ → List ℕ → List ℕ → Option Numbered → ℕ → List ℕ → Type 0
StepReads most kept unread None n now = TakesPartOfMessage most kept unread n now
StepReads most kept unread (Some m) n now = TakesMessage most kept unread m n now

-- While bytes are read: of all, these are not taken yet.
pub record IsReadingMessages (most : ℕ) (all : List ℕ) (old new : List Numbered) (kept unread : List ℕ) : Type 0 where
  pub more : List Numbered
  pub new_is : new ≡ old ++ more
  pub front : BeginsWithMessages most all more (kept ++ unread)
  pub part : IsPartOfMessage most kept

-- All were read, or those before a fault.
pub record ReadsAll (most : ℕ) (all : List ℕ) (old new : List Numbered) (end : Option MessageFault) (kept : List ℕ) : Type 0 where
  pub more : List Numbered
  pub rest : List ℕ
  pub new_is : new ≡ old ++ more
  pub front : BeginsWithMessages most all more rest
  pub stands : IsKeptOrEnds end most rest kept
