-- What the writes of a text took of it.
use Rattle.std.specs.Prelude.{◌≡◌, ◌≢◌, ◌⊎◌, ℕ, ◌+◌, ◌-◌, ◌^◌, ◌<◌, List, [], ◌∷◌, ◌++◌, length, drop, All, Result, Ok, Err}
use Rattle.std.specs.List.{FoldsTo}
use Rattle.std.specs.IoError.{error_kind}
use Rattle.std.specs.declared.io.Error.{Error}
use Rattle.std.specs.declared.io.ErrorKind.{ErrorKind}
use Rattle.std.specs.declared.io.ErrorKind.TheVariants.{Interrupted}

-- how many bytes a write took, or how it failed
abbrev pub Taken : Type 0
Taken = Result ℕ ErrorKind

abbrev pub taken_by : Result ℕ Error → Taken
taken_by (Ok n) = Ok n
taken_by (Err e) = Err (error_kind e)

-- how many bytes went out by it
abbrev pub out : Taken → ℕ
out (Ok n) = n
out (Err kind) = 0

-- another write may follow this one: it took some bytes, or it was interrupted
abbrev pub WritesOn : Taken → Type 0
WritesOn (Ok n) = 0 < n
WritesOn (Err kind) = kind ≡ Interrupted

-- the last write took nothing, or it failed; or there were 2^64 - 1 writes before and it was not made
abbrev pub WritesFailed : List Taken → List Taken → Type 0
WritesFailed writes last = (last ≡ Ok 0 ∷ [])
    ⊎ ((kind : ErrorKind) × (last ≡ Err kind ∷ []) × (kind ≢ Interrupted))
    ⊎ ((last ≡ []) × (length writes ≡ 2 ^ 64 - 1))

-- how it ends when so many bytes went out
abbrev pub WritesEndAs : Result (Unit {0}) ℕ → List ℕ → List Taken → List Taken → ℕ → Type 0
WritesEndAs (Ok _) text writes last sent = (last ≡ []) × (sent ≡ length text)
WritesEndAs (Err count) text writes last sent = WritesFailed writes last × (count ≡ sent)

module _ {S : Type 0} (takes : S → List ℕ → Taken → S → Type 0) where
  -- a write of all that has not gone out yet, which is at least one byte
  abbrev pub WritesRest : List ℕ → S × ℕ → Taken → S × ℕ → Type 0
  WritesRest text before took after = (before.1 < length text) × takes before.0 (drop before.1 text) took after.0 × (after.1 ≡ before.1 + out took)

  -- What goes out is the text, in order, and no write was made after the one that failed.
  pub record IsWrittenOut (before after : S) (text : List ℕ) (result : Result (Unit {0}) ℕ) : Type 0 where
    pub writes : List Taken
    pub last : List Taken
    pub sent : ℕ
    -- these writes were made, and no other
    pub made : FoldsTo (WritesRest text) (before, 0) (writes ++ last) (after, sent)
    pub went_on : All WritesOn writes
    pub ended : WritesEndAs result text writes last sent
