-- What the reads of a connection gave, and what its listener was told of them.
use Rattle.std.specs.Prelude.{◌≡◌, ◌≢◌, ◌⊎◌, ℕ, ◌-◌, ◌^◌, ◌<◌, ◌≤◌, Bool, true, false, List, [], ◌∷◌, ◌++◌, length, take, All, Option, Result, Ok, Err}
use Rattle.std.specs.List.{FoldsTo, concat, filter_map}
use Rattle.std.specs.Result.{result_ok}
use Rattle.std.specs.IoError.{error_kind}
use Rattle.std.specs.Io.KnownBytes.{Consumes, IsAtEnd}
use Rattle.std.specs.declared.io.Error.{Error}
use Rattle.std.specs.declared.io.ErrorKind.{ErrorKind}
use Rattle.std.specs.declared.io.ErrorKind.TheVariants.{Interrupted}
use Rattle.streams.specs.declared.reading.Ending.{Ending}
use Rattle.streams.specs.declared.reading.Ending.TheVariants.{AtEnd, Failed, Enough}
use Rattle.streams.specs.declared.reading.TheConstants.{MOST_PIECE_BYTES}

-- what a read gives: some bytes, none at the end of the input, or how it failed
abbrev pub Read : Type 0
Read = Result (List ℕ) ErrorKind

-- what a read into this buffer gave
abbrev pub read_of : Result ℕ Error → List ℕ → Read
read_of (Ok n) buffer = Ok (take n buffer)
read_of (Err e) buffer = Err (error_kind e)

-- the pieces that reads gave, in order
abbrev pub pieces : List Read → List (List ℕ)
pieces reads = filter_map result_ok reads

-- another read may follow this one: it gave a piece, or it was interrupted
abbrev pub ReadsOn : Read → Type 0
ReadsOn (Ok piece) = (0 < length piece) × (length piece ≤ MOST_PIECE_BYTES)
ReadsOn (Err kind) = kind ≡ Interrupted

-- what `Failed` says: the last read failed, or there were 2^64 - 1 reads before and it was not made
abbrev pub ReadsFailed : List Read → List Read → Type 0
ReadsFailed reads last = ((kind : ErrorKind) × (last ≡ Err kind ∷ []) × (kind ≢ Interrupted)) ⊎ ((last ≡ []) × (length reads ≡ 2 ^ 64 - 1))

module _ {S T : Type 0} (gives : S → Read → S → Type 0) (remaining : S → Option (List ℕ)) (hears : T → List ℕ → Bool → T → Type 0) (leaves : T → T → Type 0) where
  -- How it ends, after reads that went on: by a last one. There is one hangup, and if all was read none is left;
  -- or the last piece was enough.
  abbrev pub ReadsEndAs : Ending → List Read → List Read → S → T → T → Type 0
  ReadsEndAs AtEnd reads last after s t = (last ≡ Ok [] ∷ []) × IsAtEnd (remaining after) × leaves s t
  ReadsEndAs Failed reads last after s t = ReadsFailed reads last × leaves s t
  ReadsEndAs Enough reads last after s t = (piece : List ℕ) × (last ≡ Ok piece ∷ []) × ReadsOn (Ok piece) × hears s piece false t

  -- What was handed on is what was read, in order, and no read was made after the one that ended it.
  pub record IsSession (before after : S) (s t : T) (ending : Ending) : Type 0 where
    pub reads : List Read
    pub last : List Read
    pub then : T
    -- these reads were made, and no other
    pub made : FoldsTo gives before (reads ++ last) after
    pub went_on : All ReadsOn reads
    -- the listener heard each piece of them, and wanted more after each
    pub heard : FoldsTo (λ s piece t. hears s piece true t) s (pieces reads) then
    pub ended : ReadsEndAs ending reads last after then t
    -- the reader has lost just the bytes that it gave
    pub lost : Consumes (remaining before) (remaining after) (concat (pieces (reads ++ last)))
