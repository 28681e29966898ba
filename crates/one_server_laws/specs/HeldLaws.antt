-- What holds of the executors of every world that is reached.
use Rattle.std.specs.Prelude.{◌≡◌, ℕ, ◌<◌, ◌≤◌, false, List, Option, Some, slice_get}
use Rattle.decrees.specs.Count.{count_below, member_count}
use Rattle.decrees.specs.Standing.{standing}
use Rattle.states.specs.State.{StateView}
use Rattle.exec_lines.specs.State.{ExecutorState}
use Rattle.exec_node.specs.Executor.{ExecutorView}
use Rattle.exec_node.specs.Record.{IsReadRecord}
use Rattle.run_laws.specs.Met.{IsKnown, ToldApart}
use Rattle.run_laws.specs.Chosen.{AllMade, IsCommitted}
use Rattle.custody_laws.specs.Durable.{Durable, Keeps}
use Rattle.events.specs.declared.event.Event.{Event}
use Rattle.events.specs.Config.{ConfigView}
use Rattle.slots.specs.Slot.{Slot}
use Rattle.slots.specs.declared.slot.Slot.TheVariants.{Up, Down, Gone}
use Rattle.worlds.specs.World.{WorldView, ReachedWorlds, EndsWith}
use Rattle.slots.specs.Status.{is_gone}
use Rattle.world_laws.specs.Laws.{chosen_list}
use Rattle.one_server_laws.specs.Saved.{up_again, IsSpelled, IsSavedIn, HasSaved, Has, HasOne, IsMet, IsExecuted, DigestsAreDistinct}
use Rattle.one_server_laws.specs.Machines.{HasExecutorMachine}

-- a record spells one saved state
abbrev pub OneTextIsSpelled : Type 0
OneTextIsSpelled = (u id : ℕ) (record_is : Option (List ℕ)) (x y : Durable) → IsSpelled u id record_is x → IsSpelled u id record_is y → x ≡ y

-- and is read as just that
abbrev pub OneIsRead : Type 0
OneIsRead = (u id : ℕ) (bytes : List ℕ) (x : Durable) (s : ExecutorState) → IsSpelled u id (Some bytes) x → IsReadRecord u id bytes s → s ≡ up_again x

abbrev pub WorldsAreOfExecutorMachines : Type 0
WorldsAreOfExecutorMachines = (c : ConfigView) (events : List Event) (worlds : List WorldView) (w : WorldView) → ReachedWorlds c events worlds → EndsWith worlds w → HasExecutorMachine w.u worlds w

-- if digests tell their texts apart, the states that were met are distinguished: each has the token of its parts
abbrev pub MetAreToldApart : Type 0
MetAreToldApart = (c : ConfigView) (events : List Event) (worlds : List WorldView) → ReachedWorlds c events worlds → DigestsAreDistinct worlds → ToldApart (IsMet worlds)

-- each chosen Commit is of a state that was made by a round, over what stands before it
abbrev pub ChosenIsMadeInWorlds : Type 0
ChosenIsMadeInWorlds = (c : ConfigView) (events : List Event) (worlds : List WorldView) (w : WorldView) → ReachedWorlds c events worlds → EndsWith worlds w → AllMade (IsMet worlds) (IsExecuted worlds) (chosen_list w)

-- what an executor has saved is what it has
abbrev pub SavedIsHad : Type 0
SavedIsHad = (w : WorldView) (id : ℕ) (x : Durable) → HasSaved w id x → Has w id x

-- each of the 2u + 1 executors, up, down or lost, has one saved state
abbrev pub EachHasOneInWorlds : Type 0
EachHasOneInWorlds = (c : ConfigView) (events : List Event) (worlds : List WorldView) (w : WorldView) (id : ℕ) → ReachedWorlds c events worlds → EndsWith worlds w → id < member_count w.u → HasOne w id

-- what an executor has committed was met, or is the first state, and a Commit of it is chosen
pub record IsChosenState (worlds : List WorldView) (w : WorldView) (s : StateView) : Type 0 where
  pub known : IsKnown (IsMet worlds) s
  pub committed : IsCommitted (chosen_list w) s

abbrev pub CommittedIsChosenInWorlds : Type 0
CommittedIsChosenInWorlds = (c : ConfigView) (events : List Event) (worlds : List WorldView) (w : WorldView) (id : ℕ) (x : Durable) → ReachedWorlds c events worlds → EndsWith worlds w → Has w id x → IsChosenState worlds w x.have

-- what the keeper of an executor has
abbrev pub executor_record : Slot ExecutorView → Option (List ℕ)
executor_record (Up e) = e.saved
executor_record (Down kept) = kept.saved
executor_record (Gone kept) = kept.saved

-- how many executors are lost for good
abbrev pub lost_executors : WorldView → ℕ
lost_executors w = count_below (λ id. is_gone (slice_get w.executors id)) (member_count w.u)

-- An executor that is not lost for good has the state of the last chosen Commit, by its record, and if it is up by its state.
pub record ExecutorKeeps (worlds : List WorldView) (w : WorldView) : Type 0 where
  pub executor : ℕ
  pub slot : Slot ExecutorView
  pub there : slice_get w.executors executor ≡ Some slot
  pub not_lost : is_gone (Some slot) ≡ false
  pub saved : Durable
  pub has_saved : IsSavedIn w.u executor slot saved
  pub recorded : IsSpelled w.u executor (executor_record slot) saved
  pub last : StateView
  pub keeps : Keeps saved last
  pub is_met : IsMet worlds last
  pub number : last.number ≡ (standing (chosen_list w)).n
  pub token : last.token ≡ (standing (chosen_list w)).token

-- if a Commit is chosen, and at most u executors are lost, another one keeps the state of the last one
abbrev pub ExecutorsKeepChosen : List WorldView → WorldView → Type 0
ExecutorsKeepChosen worlds w = lost_executors w ≤ w.u → 0 < (standing (chosen_list w)).n → ExecutorKeeps worlds w

abbrev pub ExecutorsKeepChosenInWorlds : Type 0
ExecutorsKeepChosenInWorlds = (c : ConfigView) (events : List Event) (worlds : List WorldView) (w : WorldView) → ReachedWorlds c events worlds → EndsWith worlds w → DigestsAreDistinct worlds → ExecutorsKeepChosen worlds w
