-- How bytes are taken, step by step.
use Rattle.std.specs.Prelude.{◌≡◌, ℕ, ◌+◌, ◌^◌, ◌<◌, ◌≤◌, List, [], ◌++◌, length, take, Option, Some, None}
use Rattle.seals.specs.declared.fault.SealFault.{SealFault}
use Rattle.seals.specs.declared.frame.TheConstants.{MOST_PIECE_BYTES}
use Rattle.seals.specs.Frame.{frame, IsPartOfFrame}
use Rattle.seals.specs.Opening.{BeginsWithFrames, StandsBehind}

-- n bytes were taken, and no frame is whole
pub record TakesPart (number : ℕ) (kept unread : List ℕ) (n next : ℕ) (now : List ℕ) : Type 0 where
  pub some : 0 < n
  pub there : n ≤ length unread
  pub next_is : next ≡ number
  pub now_is : now ≡ kept ++ take n unread
  pub part : IsPartOfFrame now

-- n bytes were taken, and with them the frame of this piece is whole
pub record TakesFrame (key : List ℕ) (number : ℕ) (kept unread piece : List ℕ) (n next : ℕ) (now : List ℕ) : Type 0 where
  pub some : 0 < n
  pub there : n ≤ length unread
  pub next_is : next ≡ number + 1
  pub numbered : next < 2 ^ 64
  pub frame_is : kept ++ take n unread ≡ frame key number piece
  pub within : length piece ≤ MOST_PIECE_BYTES
  pub now_is : now ≡ []

abbrev pub StepTakes : List ℕ → ℕ → List ℕ → List ℕ → Option (List ℕ) → ℕ → ℕ → List ℕ → Type 0
StepTakes key number kept unread None n next now = TakesPart number kept unread n next now
StepTakes key number kept unread (Some piece) n next now = TakesFrame key number kept unread piece n next now

-- While bytes are taken: of all, which begin with a frame of this number, these are not read yet.
pub record IsTaking (key : List ℕ) (number : ℕ) (all : List ℕ) (old new : List (List ℕ)) (next : ℕ) (kept unread : List ℕ) : Type 0 where
  pub more : List (List ℕ)
  pub new_is : new ≡ old ++ more
  pub front : BeginsWithFrames key number all more (kept ++ unread)
  pub next_is : next ≡ number + length more
  pub numbered : next < 2 ^ 64
  pub part : IsPartOfFrame kept

-- All were taken, or those before a fault.
pub record TakesAll (key : List ℕ) (number : ℕ) (all : List ℕ) (old new : List (List ℕ)) (end : Option SealFault) (next : ℕ) (kept : List ℕ) : Type 0 where
  pub more : List (List ℕ)
  pub rest : List ℕ
  pub new_is : new ≡ old ++ more
  pub front : BeginsWithFrames key number all more rest
  pub stands : StandsBehind end key (number + length more) rest next kept
  pub numbered : number + length more < 2 ^ 64
