-- What went through a stream, and what waits to be written to it.
use Rattle.std.specs.Prelude.{◌≡◌, ◌≢◌, ℕ, ◌-◌, List, length, map, take, ◌++◌, Contains, Option, Result, Ok, Err, flat_map}
use Rattle.std.specs.Io.KnownBytes.{Appends}
use Rattle.std.specs.declared.alloc.Global.{Global}
use Rattle.std.specs.declared.vec.Vec.{Vec}
use Rattle.std.specs.IoError.{error_kind}
use Rattle.std.specs.declared.io.Error.{Error}
use Rattle.std.specs.declared.io.ErrorKind.TheVariants.{WouldBlock, Interrupted}
use Rattle.event_loop.specs.declared.input.Piece.{Piece}
use Rattle.event_loop.specs.Input.{bytes_of_piece}

-- the bytes of a log of pieces
abbrev pub bytes_in_log : {K : Type 0} → List (K × Vec ℕ Global) → List ℕ
bytes_in_log log = flat_map (λ e. e.1.items) log

-- what the log of reads has, and the bytes in it
abbrev pub pieces_in_log : {K : Type 0} → List (K × Piece) → List Piece
pieces_in_log log = map (λ e. e.1) log

abbrev pub bytes_read_in : {K : Type 0} → List (K × Piece) → List ℕ
bytes_read_in log = flat_map (λ e. bytes_of_piece e.1) log

-- what the log of writes has
abbrev pub results_in_log : {K : Type 0} → List (K × Result ℕ Error) → List (Result ℕ Error)
results_in_log log = map (λ e. e.1) log

-- one of these is so
abbrev pub One : {X : Type 0} → (X → Type 0) → List X → Type 0
One {X} P all = (x : X) × Contains all x × P x

-- a write took nothing, or failed
abbrev pub IsFailed : Result ℕ Error → Type 0
IsFailed (Ok n) = n ≡ 0
IsFailed (Err e) = (error_kind e ≢ WouldBlock) × (error_kind e ≢ Interrupted)

-- the stream takes no more until an event tells so
abbrev pub IsBlocked : Result ℕ Error → Type 0
IsBlocked (Ok n) = ⊥
IsBlocked (Err e) = error_kind e ≡ WouldBlock

pub record Traffic : Type 0 where
  -- what reads are still to give, and what the other side was given, if this is known
  pub remaining : Option (List ℕ)
  pub contents : Option (List ℕ)
  -- what each read gave, and the bytes in it
  pub reads : List Piece
  pub got : List ℕ
  -- what came of each write
  pub writes : List (Result ℕ Error)
  -- what was to be written
  pub said : List ℕ
  -- the end of it that is not written
  pub waits : List ℕ

-- the beginning of it that is written
abbrev pub written : Traffic → List ℕ
written t = take (length t.said - length t.waits) t.said

-- what was to be written is what is written, and then what waits
abbrev pub IsTraffic : Traffic → Type 0
IsTraffic t = t.said ≡ written t ++ t.waits

-- this piece was written, which is the beginning of what waited
pub record IsWritten (old : Traffic) (piece : List ℕ) (new : Traffic) : Type 0 where
  pub waits : old.waits ≡ piece ++ new.waits
  pub written : written new ≡ written old ++ piece
  pub contents : Appends old.contents new.contents piece
  pub said : new.said ≡ old.said
  pub got : new.got ≡ old.got
  pub reads : new.reads ≡ old.reads
