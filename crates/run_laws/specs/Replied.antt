-- What was answered in a run.
use Rattle.std.specs.Prelude.{◌≡◌, ℕ, ◌<◌, List, Some, Contains, slice_get}
use Rattle.std.specs.FinMap.{get}
use Rattle.sessions.specs.declared.sessions.LastReply.{LastReply}
use Rattle.executor.specs.declared.answered.Answered.{Answered}
use Rattle.states.specs.State.{StateView, initial_state}
use Rattle.run_laws.specs.Run.{Executed, IsRunFrom, states_of}

-- The round at this place, from 0 on, gave the answer.
pub record GivenIn (run : List Executed) (place : ℕ) (a : Answered) : Type 0 where
  pub executed : Executed
  pub there : slice_get run place ≡ Some executed
  pub given : Contains executed.replies a

-- A reply that is kept of a client after so many rounds was given to it in one of them.
pub record WasGiven (run : List Executed) (rounds client : ℕ) (kept : LastReply) : Type 0 where
  pub place : ℕ
  pub before : place < rounds
  pub answered : Answered
  pub given : GivenIn run place answered
  pub client_is : answered.client ≡ client
  pub kept_is : record { number = answered.number; reply = answered.reply } ≡ kept

abbrev pub KeptWasGiven : Type 0
KeptWasGiven = (run : List Executed) (rounds : ℕ) (s : StateView) (client : ℕ) (kept : LastReply) → IsRunFrom initial_state run → slice_get (states_of run) rounds ≡ Some s → get s.sessions client ≡ Some kept → WasGiven run rounds client kept

-- a request, that is a client and its number, is answered once
abbrev pub AnsweredOnce : Type 0
AnsweredOnce = (run : List Executed) (i j : ℕ) (a b : Answered) → IsRunFrom initial_state run → GivenIn run i a → GivenIn run j b → a.client ≡ b.client → a.number ≡ b.number → (i ≡ j) × (a ≡ b)
