-- What holds of requests and replies in every world that is reached.
use Rattle.std.specs.Prelude.{◌≡◌, ℕ, suc, List, [], ◌∷◌, ◌++◌, length, take, Some, slice_get}
use Rattle.batches.specs.declared.batch.Batch.{Batch}
use Rattle.run_laws.specs.Run.{Executed}
use Rattle.events.specs.declared.event.Event.{Event}
use Rattle.events.specs.Config.{ConfigView}
use Rattle.worlds.specs.Clients.{ClientSlot}
use Rattle.worlds.specs.World.{WorldView, ReachedWorlds, EndsWith}
use Rattle.one_server_laws.specs.Saved.{IsExecuted}
use Rattle.worlds.specs.Asked.{IsAskedBatch, IsReplied}

-- each round that was executed is of requests that were asked
abbrev pub ExecutedIsAsked : Type 0
ExecutedIsAsked = (c : ConfigView) (events : List Event) (worlds : List WorldView) (r : Executed) → ReachedWorlds c events worlds → IsExecuted worlds r → IsAskedBatch events r.batch

-- what each client was given are the texts of its first turns; clients are numbered from 1
abbrev pub GivenIsReplied : Type 0
GivenIsReplied = (c : ConfigView) (events : List Event) (worlds : List WorldView) (w : WorldView) (i : ℕ) (slot : ClientSlot) → ReachedWorlds c events worlds → EndsWith worlds w → slice_get w.clients i ≡ Some slot
    → IsReplied events w.letters (suc i) slot.given

-- what was asked by a beginning of the events was asked by all of them
abbrev pub AskedStaysAsked : Type 0
AskedStaysAsked = (events later : List Event) (b : Batch) → IsAskedBatch events b → IsAskedBatch (events ++ later) b

-- the worlds up to one of them are reached by the events before it, and end with it
abbrev pub BeginningIsReached : Type 0
BeginningIsReached = (c : ConfigView) (events : List Event) (before later : List WorldView) (w : WorldView) → ReachedWorlds c events (before ++ w ∷ later)
    → ReachedWorlds c (take (length before) events) (before ++ w ∷ []) × EndsWith (before ++ w ∷ []) w
