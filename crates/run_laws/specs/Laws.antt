-- The laws of states that were met, and of the run of the decrees that were chosen.
use Rattle.std.specs.Prelude.{◌≡◌, ℕ, ◌<◌, List, ◌++◌, length, Some, Contains, slice_get}
use Rattle.decrees.specs.declared.decree.Decree.{Decree}
use Rattle.decrees.specs.Standing.{standing}
use Rattle.wire.specs.Batch.{batch_text}
use Rattle.wire.specs.Distinct.{Distinct}
use Rattle.states.specs.State.{StateView}
use Rattle.run_laws.specs.Met.{AreAmong, IsKnown, ToldApart}
use Rattle.run_laws.specs.Run.{Executed, IsOver, states_of, Extends}
use Rattle.run_laws.specs.Chosen.{AllMade, IsRunOf, IsCommitted}

-- states that were met, or are the first, of one number and token are one state
abbrev pub NumberAndTokenTell : Type 0
NumberAndTokenTell = (met : List StateView) (s t : StateView) → ToldApart (Contains met) → IsKnown (Contains met) s → IsKnown (Contains met) t → s.number ≡ t.number → s.token ≡ t.token → s ≡ t

-- and so are states after the first, of one token
abbrev pub TokenTells : Type 0
TokenTells = (met : List StateView) (s t : StateView) → ToldApart (Contains met) → IsKnown (Contains met) s → IsKnown (Contains met) t → 0 < s.number → 0 < t.number → s.token ≡ t.token → s ≡ t

-- rounds that made one state were of one batch, if the texts of the batches are among such as have distinct digests
abbrev pub StateTellsBatch : Type 0
StateTellsBatch = (texts : List (List ℕ)) (old before : StateView) (e other : Executed) → Distinct (Contains texts) → Contains texts (batch_text e.batch) → Contains texts (batch_text other.batch)
    → IsOver old e → IsOver before other → e.new ≡ other.new → e.batch ≡ other.batch

-- decrees of which each Commit was made have a run, of rounds that were executed
abbrev pub HasRun : Type 0
HasRun = (met : List StateView) (rounds : List Executed) (decrees : List Decree) → ToldApart (Contains met) → AllMade (Contains met) (Contains rounds) decrees → (run : List Executed) × IsRunOf (Contains met) (Contains rounds) decrees run

-- and all their runs have the same states
abbrev pub OneRun : Type 0
OneRun = (met : List StateView) (rounds : List Executed) (decrees : List Decree) (run other : List Executed) → ToldApart (Contains met) → IsRunOf (Contains met) (Contains rounds) decrees run → IsRunOf (Contains met) (Contains rounds) decrees other → states_of run ≡ states_of other

-- if more decrees are chosen, more states met and more rounds executed, a run of them extends the run before
abbrev pub RunGrows : Type 0
RunGrows = (met met_later : List StateView) (rounds rounds_later : List Executed) (decrees more : List Decree) (run : List Executed) → AreAmong met met_later → AreAmong rounds rounds_later → ToldApart (Contains met_later) → AllMade (Contains met_later) (Contains rounds_later) (decrees ++ more) → IsRunOf (Contains met) (Contains rounds) decrees run
    → (later : List Executed) × Extends run later × IsRunOf (Contains met_later) (Contains rounds_later) (decrees ++ more) later

-- a state that was met is, if it is committed, the run's of its number
abbrev pub CommittedIsOfRun : Type 0
CommittedIsOfRun = (met : List StateView) (rounds : List Executed) (decrees : List Decree) (run : List Executed) (s : StateView) → ToldApart (Contains met) → IsRunOf (Contains met) (Contains rounds) decrees run → IsKnown (Contains met) s → IsCommitted decrees s → slice_get (states_of run) s.number ≡ Some s

-- The run's last state is the one that the decrees stand for.
pub record EndsAt (decrees : List Decree) (run : List Executed) : Type 0 where
  pub count : length run ≡ (standing decrees).n
  pub last : StateView
  pub is_last : slice_get (states_of run) (length run) ≡ Some last
  pub number : last.number ≡ (standing decrees).n
  pub token : last.token ≡ (standing decrees).token

abbrev pub RunEnds : Type 0
RunEnds = (met : List StateView) (rounds : List Executed) (decrees : List Decree) (run : List Executed) → IsRunOf (Contains met) (Contains rounds) decrees run → EndsAt decrees run
