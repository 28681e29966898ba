-- The record of an executor.
use Rattle.std.specs.Prelude.{ℕ, List, ◌∷◌, ◌++◌}
use Rattle.std.specs.Int.{w8, w64}
use Rattle.wire.specs.Number.{num}
use Rattle.decrees.specs.declared.standing.Standing.{Standing}
use Rattle.decrees.specs.Record.{standing_text}
use Rattle.states.specs.declared.version.Version.{Version}
use Rattle.states.specs.declared.version.Version.TheVariants.{Second}
use Rattle.states.specs.Version.{version_mark}
use Rattle.rollback.specs.Chain.{chain_text_in}
use Rattle.exec_lines.specs.State.{ExecutorState}

-- the version and the kind, the executor's number and how many may fail, and what is saved of its state
abbrev pub executor_text_in : Version → ℕ → ℕ → ExecutorState → List ℕ
executor_text_in version u id s = version_mark version ∷ 69 ∷ ((((num w8 id ++ num w8 u) ++ num w64 s.known) ++ standing_text s.standing) ++ chain_text_in version s.chain)

-- what is written
abbrev pub executor_text : ℕ → ℕ → ExecutorState → List ℕ
executor_text u id s = executor_text_in Second u id s

-- the same of what is saved: how many decrees are known, what they stand for, and the text of the chain
abbrev pub saved_text : ℕ → ℕ → ℕ → Standing → List ℕ → List ℕ
saved_text u id known standing chain = version_mark Second ∷ 69 ∷ ((((num w8 id ++ num w8 u) ++ num w64 known) ++ standing_text standing) ++ chain)
