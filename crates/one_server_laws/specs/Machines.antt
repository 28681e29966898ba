-- A world, seen as a machine of `custody_laws`: its executors by what they have saved, and its ballots.
use Rattle.std.specs.Prelude.{◌≡◌, ℕ, ◌+◌, List, Option, None, Some, length, slice_get, Contains}
use Rattle.decrees.specs.Count.{member_count}
use Rattle.states.specs.State.{StateView}
use Rattle.executor.specs.Work.{WorkView, Worked}
use Rattle.rollback.specs.Chain.{tip}
use Rattle.exec_lines.specs.Record.{executor_text}
use Rattle.exec_node.specs.Executor.{ExecutorView}
use Rattle.agreement_laws.specs.ChosenList.{chosen}
use Rattle.run_laws.specs.Run.{Executed}
use Rattle.custody_laws.specs.Durable.{Durable, first_durable}
use Rattle.custody_laws.specs.Machine.{ExecutorMachine, Reached}
use Rattle.slots.specs.Slot.{Slot}
use Rattle.slots.specs.declared.slot.Slot.TheVariants.{Up, Down, Gone}
use Rattle.worlds.specs.World.{WorldView}
use Rattle.world_laws.specs.Ballots.{ballots}
use Rattle.one_server_laws.specs.Saved.{saved_of, up_again, IsMet, IsExecuted}

-- Work is over just the tip, of the next number and the standing epoch, and its executor is not behind.
pub record IsWorkOver (x : Durable) (w : WorkView) : Type 0 where
  pub over : w.base ≡ tip x.have x.chain
  pub worked : Worked w.base w.batch w.ordered w.progress
  pub next : w.batch.n ≡ w.base.number + 1
  pub of_epoch : w.batch.epoch ≡ x.standing.epoch
  pub level : x.have.number ≡ x.standing.n

abbrev pub HasWork : Durable → Option WorkView → Type 0
HasWork x None = Unit {0}
HasWork x (Some w) = IsWorkOver x w

-- This executor that is up is the one of the machine, and its record is the text of its state.
pub record IsUp (u id : ℕ) (x : Durable) (e : ExecutorView) : Type 0 where
  pub same_u : e.u ≡ u
  pub same_id : e.id ≡ id
  pub saved : saved_of e.state ≡ x
  pub recorded : e.saved ≡ Some (executor_text u id (up_again x))
  pub works : HasWork x e.state.work

-- what the keeper of an executor has that is not up
abbrev pub IsRecordOf : ℕ → ℕ → Option (List ℕ) → Durable → Type 0
IsRecordOf u id None x = x ≡ first_durable
IsRecordOf u id (Some bytes) x = bytes ≡ executor_text u id (up_again x)

abbrev pub IsSameExecutor : ℕ → ℕ → Durable → Slot ExecutorView → Type 0
IsSameExecutor u id x (Up e) = IsUp u id x e
IsSameExecutor u id x (Down kept) = IsRecordOf u id kept.saved x
IsSameExecutor u id x (Gone kept) = IsRecordOf u id kept.saved x

-- each executor of the machine is the one in the slot of its number
abbrev pub AreSameExecutors : ℕ → List (Slot ExecutorView) → List Durable → Type 0
AreSameExecutors u slots durables = (id : ℕ) (slot : Slot ExecutorView) → slice_get slots id ≡ Some slot → (x : Durable) × (slice_get durables id ≡ Some x) × IsSameExecutor u id x slot

pub record IsOfExecutorMachine (u : ℕ) (w : WorldView) (m : ExecutorMachine) : Type 0 where
  pub same_u : w.u ≡ u
  pub letters : ballots w.letters ≡ m.letters
  pub decrees : m.decrees ≡ chosen u m.letters
  pub count : length w.executors ≡ member_count u
  pub executors : AreSameExecutors u w.executors m.executors

-- the world is of a machine that is reached, whose states were met and whose rounds were executed in these worlds
pub record HasExecutorMachine (u : ℕ) (worlds : List WorldView) (w : WorldView) : Type 0 where
  pub before : List ExecutorMachine
  pub now : ExecutorMachine
  pub reached : Reached u before now
  pub same : IsOfExecutorMachine u w now
  pub met : (s : StateView) → Contains now.met s → IsMet worlds s
  pub rounds : (r : Executed) → Contains now.rounds r → IsExecuted worlds r
