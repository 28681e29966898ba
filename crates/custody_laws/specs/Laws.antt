-- What holds of every reached machine of executors.
use Rattle.std.specs.Prelude.{◌≡◌, ℕ, ◌<◌, ◌≤◌, Bool, IsTrue, not, List, Some, slice_get, Contains}
use Rattle.decrees.specs.Count.{count_below, member_count}
use Rattle.decrees.specs.Standing.{standing}
use Rattle.states.specs.State.{StateView}
use Rattle.run_laws.specs.Met.{IsKnown, ToldApart}
use Rattle.run_laws.specs.Chosen.{AllMade, IsCommitted}
use Rattle.custody_laws.specs.Durable.{Durable, Keeps}
use Rattle.custody_laws.specs.Machine.{ExecutorMachine, Reached}

abbrev pub ChosenIsMade : Type 0
ChosenIsMade = (u : ℕ) (before : List ExecutorMachine) (m : ExecutorMachine) → Reached u before m → AllMade (Contains m.met) (Contains m.rounds) m.decrees

pub record IsChosen (m : ExecutorMachine) (s : StateView) : Type 0 where
  pub known : IsKnown (Contains m.met) s
  pub committed : IsCommitted m.decrees s

abbrev pub CommittedIsChosen : Type 0
CommittedIsChosen = (u : ℕ) (before : List ExecutorMachine) (m : ExecutorMachine) (e : ℕ) (x : Durable) → Reached u before m → slice_get m.executors e ≡ Some x → IsChosen m x.have

pub record IsInCustody (m : ExecutorMachine) (lost : ℕ → Bool) : Type 0 where
  pub executor : ℕ
  pub durable : Durable
  pub state : StateView
  pub not_lost : IsTrue (not (lost executor))
  pub there : slice_get m.executors executor ≡ Some durable
  pub keeps : Keeps durable state
  pub is_met : Contains m.met state
  pub number : state.number ≡ (standing m.decrees).n
  pub token : state.token ≡ (standing m.decrees).token

abbrev pub LastCommitIsKept : Type 0
LastCommitIsKept = (u : ℕ) (before : List ExecutorMachine) (m : ExecutorMachine) (lost : ℕ → Bool) → Reached u before m → ToldApart (Contains m.met) → count_below lost (member_count u) ≤ u → 0 < (standing m.decrees).n → IsInCustody m lost
