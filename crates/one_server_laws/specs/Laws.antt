-- What holds of every play.
use Rattle.std.specs.Prelude.{List}
use Rattle.events.specs.declared.event.Event.{Event}
use Rattle.events.specs.Config.{ConfigView}
use Rattle.worlds.specs.World.{WorldView, ReachedWorlds, EndsWith, IsReached}
use Rattle.one_server_laws.specs.Saved.{IsMet, DigestsAreDistinct}
use Rattle.one_server_laws.specs.Run.{IsOneServer, ExecutorsKeep}

abbrev pub WorldsAreOfOneServer : Type 0
WorldsAreOfOneServer = (c : ConfigView) (events : List Event) (worlds : List WorldView) → ReachedWorlds c events worlds → DigestsAreDistinct worlds → IsOneServer events worlds

abbrev pub ExecutorsKeepTheRun : Type 0
ExecutorsKeepTheRun = (c : ConfigView) (events : List Event) (worlds : List WorldView) (w : WorldView) → ReachedWorlds c events worlds → EndsWith worlds w → DigestsAreDistinct worlds → ExecutorsKeep (IsMet worlds) events w

-- ---- of the world to which events lead

-- through whichever worlds the events lead to this one, they show one server, if digests tell the states that were met there apart
abbrev pub ShowsOneServer : ConfigView → List Event → WorldView → Type 0
ShowsOneServer c events w = (through : IsReached c events w) → DigestsAreDistinct through.worlds → IsOneServer events through.worlds

-- and alike the state that the run ends with is kept
abbrev pub KeepsItsRun : ConfigView → List Event → WorldView → Type 0
KeepsItsRun c events w = (through : IsReached c events w) → DigestsAreDistinct through.worlds → ExecutorsKeep (IsMet through.worlds) events w
