-- Bytes that are sealed in pieces.
use Rattle.std.specs.Prelude.{◌≡◌, ℕ, ◌+◌, ◌≤◌, List, ◌++◌, length, All, flat_map}
use Rattle.seals.specs.declared.sealer.Sealer.{Sealer}
use Rattle.seals.specs.declared.frame.TheConstants.{MOST_PIECE_BYTES}
use Rattle.seals.specs.Frame.{frames}

-- the bytes of pieces, one after the other
abbrev pub bytes_of_pieces : List (List ℕ) → List ℕ
bytes_of_pieces pieces = flat_map (λ (piece : List ℕ). piece) pieces

-- The bytes were sealed in pieces, and their frames are behind what was there before.
pub record AreSealedInPieces (old : Sealer) (bytes before after : List ℕ) (new : Sealer) : Type 0 where
  pub pieces : List (List ℕ)
  pub bytes_are : bytes ≡ bytes_of_pieces pieces
  pub within : All (λ (piece : List ℕ). length piece ≤ MOST_PIECE_BYTES) pieces
  pub sealed : after ≡ before ++ frames old.key old.number pieces
  pub next : new ≡ record old { number = old.number + length pieces }

-- While they are sealed: these are not sealed yet.
pub record IsSealing (old : Sealer) (bytes before after : List ℕ) (new : Sealer) (left : List ℕ) : Type 0 where
  pub front : List ℕ
  pub split : bytes ≡ front ++ left
  pub sealed : AreSealedInPieces old front before after new
