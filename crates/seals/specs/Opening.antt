-- What an opener makes of all bytes that came.
use Rattle.std.specs.Prelude.{◌≡◌, ℕ, ◌^◌, ◌<◌, ◌≤◌, List, [], ◌++◌, length, Option, Some, None, All}
use Rattle.seals.specs.declared.fault.SealFault.{SealFault}
use Rattle.seals.specs.declared.frame.TheConstants.{MOST_PIECE_BYTES}
use Rattle.seals.specs.Frame.{frames, IsPartOfFrame, IsEndFor}

-- an opener as contracts see it
pub record OpenerView : Type 0 where
  pub key : List ℕ
  -- the number of the next piece
  pub number : ℕ
  -- what came of its frame
  pub kept : List ℕ
  -- why nothing more is taken, if so
  pub end : Option SealFault

-- what is kept while more may be taken
abbrev pub IsPartIf : Option SealFault → List ℕ → Type 0
IsPartIf None kept = IsPartOfFrame kept
IsPartIf (Some fault) kept = kept ≡ []

-- The bytes begin with the frames of these pieces, numbered from this one on, and the rest is behind them.
pub record BeginsWithFrames (key : List ℕ) (number : ℕ) (bytes : List ℕ) (pieces : List (List ℕ)) (rest : List ℕ) : Type 0 where
  pub split : bytes ≡ frames key number pieces ++ rest
  pub within : All (λ (piece : List ℕ). length piece ≤ MOST_PIECE_BYTES) pieces

-- The rest, behind as many pieces as this number says, is kept, since it is part of a frame; or no frame begins it.
abbrev pub StandsBehind : Option SealFault → List ℕ → ℕ → List ℕ → ℕ → List ℕ → Type 0
StandsBehind None key count rest number kept = (number ≡ count) × (kept ≡ rest) × IsPartOfFrame rest
StandsBehind (Some fault) key count rest number kept = IsEndFor fault key count rest

-- All these bytes came, under this key, and these pieces were taken of them: those whose frames, numbered from 0, the bytes begin with.
pub record HasOpened (key all : List ℕ) (pieces : List (List ℕ)) (o : OpenerView) : Type 0 where
  pub rest : List ℕ
  pub front : BeginsWithFrames key 0 all pieces rest
  pub stands : StandsBehind o.end key (length pieces) rest o.number o.kept
  pub numbered : length pieces < 2 ^ 64
  pub key_is : o.key ≡ key

-- more pieces were taken, after these, and stand behind others
abbrev pub OpensMore : List ℕ → List ℕ → List (List ℕ) → List (List ℕ) → List (List ℕ) → OpenerView → Type 0
OpensMore key all before old new o = (more : List (List ℕ)) × (new ≡ old ++ more) × HasOpened key all (before ++ more) o
