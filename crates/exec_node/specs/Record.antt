-- What the record of an executor stands for.
use Rattle.std.specs.Prelude.{◌≡◌, ℕ, ◌≤◌, List, ◌∷◌, ◌++◌}
use Rattle.std.specs.Int.{w8, w64}
use Rattle.wire.specs.Number.{num}
use Rattle.token.specs.declared.Token.{Token}
use Rattle.token.specs.Token.{token_bytes}
use Rattle.states.specs.declared.version.Version.{Version}
use Rattle.states.specs.declared.version.Version.TheVariants.{Second}
use Rattle.states.specs.Version.{version_text}
use Rattle.rollback.specs.Chain.{IsRecordedIn}
use Rattle.exec_lines.specs.State.{ExecutorState, after_crash}
use Rattle.exec_lines.specs.Record.{executor_text_in}

-- the executor's number, how many may fail, and how many decrees it knows; and what these stand for
abbrev pub ExecutorHead : Type 0
ExecutorHead = ((ℕ × ℕ) × ℕ) × (((ℕ × Token) × ℕ) × ℕ)

abbrev pub head_fields : ExecutorHead → List ℕ
head_fields h =
    ((num w8 h.0.0.0 ++ num w8 h.0.0.1) ++ num w64 h.0.1) ++ (((num w64 h.1.0.0.0 ++ token_bytes h.1.0.0.1) ++ num w64 h.1.0.1) ++ num w64 h.1.1)

-- the record up to its chain
abbrev pub executor_head_text : Version × ExecutorHead → List ℕ
executor_head_text p = version_text p.0 ++ 69 ∷ head_fields p.1

-- the bytes are the record in this version of an executor that is just up again with this state
pub record IsExecutorRecordIn (version : Version) (u id : ℕ) (bytes : List ℕ) (s : ExecutorState) : Type 0 where
  pub fresh : s ≡ after_crash s
  pub spelled : bytes ≡ executor_text_in version u id s
  pub begun : 1 ≤ s.standing.epoch
  pub recorded : IsRecordedIn version s.chain

-- a record as it is written
abbrev pub IsExecutorRecord : ℕ → ℕ → List ℕ → ExecutorState → Type 0
IsExecutorRecord u id bytes s = IsExecutorRecordIn Second u id bytes s

-- a record that is read
abbrev pub IsReadRecord : ℕ → ℕ → List ℕ → ExecutorState → Type 0
IsReadRecord u id bytes s = (version : Version) × IsExecutorRecordIn version u id bytes s
