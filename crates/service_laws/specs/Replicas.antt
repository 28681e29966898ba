-- What the replicas of a service have chosen, and what they keep.
use Rattle.std.specs.Prelude.{◌<◌, ◌≤◌, IsTrue, List, length, map}
use Rattle.run_laws.specs.Run.{Executed}
use Rattle.worlds.specs.World.{WorldView}
use Rattle.world_laws.specs.Laws.{ChosenIsKept, trims_none}
use Rattle.one_server_laws.specs.HeldLaws.{lost_executors}
use Rattle.one_server_laws.specs.Saved.{IsMet, DigestsAreDistinct}
use Rattle.one_server_laws.specs.Run.{IsRun, KeepsTheEnd}
use Rattle.service.specs.Service.{ServiceView, HasEnsemble}

-- the executors and verifiers that it has, with all letters that were ever sent in the world that explains it
abbrev pub replicas_in : (v : ServiceView) → HasEnsemble v → WorldView
replicas_in v over = record { u = over.ensemble.nodes.u; clients = over.world.now.clients; executors = map (λ h. h.slot) over.ensemble.nodes.executors; verifiers = over.ensemble.nodes.verifiers; letters = over.world.now.letters }

-- whichever world explains it, this holds of its replicas
abbrev pub InEach : (v : ServiceView) → (WorldView → Type 0) → Type 0
InEach v P = (over : HasEnsemble v) → P (replicas_in v over)

-- if no verifier was told to forget decrees, another one than those that are lost keeps each chosen decree itself
abbrev pub WholeIsKept : ServiceView → Type 0
WholeIsKept v = (over : HasEnsemble v) → IsTrue (trims_none over.world.events) → ChosenIsKept (replicas_in v over)

-- while at most u executors are lost for good, the record of another one has the state that the run ends with
abbrev pub EndIsKept : (v : ServiceView) → HasEnsemble v → Type 0
EndIsKept v over = lost_executors (replicas_in v over) ≤ over.ensemble.nodes.u → (run : List Executed) → IsRun (IsMet over.world.through.worlds) over.world.events over.world.now run → 0 < length run → KeepsTheEnd (replicas_in v over) run

-- so it is, if digests tell apart the states that executors had
abbrev pub LastStateIsKept : ServiceView → Type 0
LastStateIsKept v = (over : HasEnsemble v) → DigestsAreDistinct over.world.through.worlds → EndIsKept v over
