-- Runs of one server.
use Rattle.std.specs.Prelude.{◌≡◌, ◌+◌, Bool, List, [], ◌∷◌, ◌++◌, map}
use Rattle.batches.specs.declared.batch.Batch.{Batch}
use Rattle.executor.specs.declared.answered.Answered.{Answered}
use Rattle.states.specs.State.{StateView, initial_state}
use Rattle.executor.specs.Round.{Round}

-- A batch that was executed, whether in batch order, and what it made.
pub record Executed : Type 0 where
  pub batch : Batch
  pub ordered : Bool
  pub new : StateView
  pub replies : List Answered

-- It is a round over this state, of the next number.
pub record IsOver (old : StateView) (e : Executed) : Type 0 where
  pub next : e.new.number ≡ old.number + 1
  pub round : Round old e.batch e.ordered e.new e.replies

-- each round is over the state of the one before it
abbrev pub IsRunFrom : StateView → List Executed → Type 0
IsRunFrom old [] = Unit {0}
IsRunFrom old (e ∷ es) = IsOver old e × IsRunFrom e.new es

-- the states after each round
abbrev pub made_in : List Executed → List StateView
made_in run = map (λ e. e.new) run

-- the state after so many rounds is at that place, from 0 on
abbrev pub states_of : List Executed → List StateView
states_of run = initial_state ∷ made_in run

-- the rounds of the first run are a beginning of those of the later one
abbrev pub Extends : List Executed → List Executed → Type 0
Extends run later = (more : List Executed) × (later ≡ run ++ more)
