-- The replicas that a service has are those of each world that explains it.
use Rattle.std.proofs.Common.{◌≡◌, ◌<◌, ◌≤◌, List, length, subst}
use Rattle.run_laws.specs.Run.{Executed}
use Rattle.worlds.specs.World.{WorldView}
use Rattle.one_server_laws.specs.HeldLaws.{lost_executors}
use Rattle.one_server_laws.specs.Saved.{IsMet}
use Rattle.one_server_laws.specs.Run.{IsRun, KeepsTheEnd}
use Rattle.one_server_laws.specs.Laws.{ExecutorsKeepTheRun}
use Rattle.service.specs.Service.{ServiceView, HasEnsemble}
use Rattle.service_laws.specs.Replicas.{replicas_in, LastStateIsKept}

module _ (v : ServiceView) (over : HasEnsemble v) where
  is_world : over.world.now ≡ replicas_in v over
  is_world = λ i. record { u = over.world.like.same_u i; clients = over.world.now.clients; executors = over.world.like.executors i; verifiers = over.world.like.verifiers i; letters = over.world.now.letters }

  pub of_replicas : (P : WorldView → Type 0) → P over.world.now → P (replicas_in v over)
  of_replicas P holds = subst P is_world holds

pub last_is_kept : (v : ServiceView) → ExecutorsKeepTheRun → LastStateIsKept v
last_is_kept v law over distinct =
    let through = over.world.through in
    of_replicas v over
    (λ (w : WorldView). lost_executors w ≤ w.u → (run : List Executed) → IsRun (IsMet through.worlds) over.world.events over.world.now run → 0 < length run → KeepsTheEnd w run)
    (law over.world.config over.world.events through.worlds over.world.now through.reached through.ends distinct)
