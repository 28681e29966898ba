-- What is always true of a world, and by what it is identified.
use Rattle.std.specs.Prelude.{ℕ, zero, suc, ◌<◌, ◌≤◌, List, length, Option, None, slice_get, refl}
use Rattle.std.specs.Option.{option_map}
use Rattle.std.specs.Coded.{Coded, code_by, coded×, coded_ℕ, coded_list}
use Rattle.decrees.specs.declared.node.Letter.{Letter}
use Rattle.decrees.specs.Count.{member_count}
use Rattle.exec_lines.specs.declared.body.Body.{Body}
use Rattle.exec_node.specs.Executor.{ExecutorView}
use Rattle.verifier.specs.Verifier.{VerifierView}
use Rattle.slots.specs.Slot.{Slot}
use Rattle.worlds.specs.Clients.{ClientSlot}
use Rattle.worlds.specs.World.{WorldView}

pub record IsWorld (w : WorldView) : Type 0 where
  pub few : w.u < 4
  pub executors : length w.executors ≤ member_count w.u
  pub verifiers : length w.verifiers ≤ member_count w.u

-- a world is identified by what it has
abbrev pub world_code : Coded ClientSlot → Coded (Slot ExecutorView) → Coded (Slot VerifierView) → Coded (Letter Body) → Coded WorldView
world_code client executor verifier letter =
    code_by ((((ℕ × List ClientSlot) × List (Slot ExecutorView)) × List (Slot VerifierView)) × List (Letter Body))
    (coded× (coded× (coded× (coded× coded_ℕ (coded_list client)) (coded_list executor)) (coded_list verifier)) (coded_list letter))
    (λ w. ((((w.u, w.clients), w.executors), w.verifiers), w.letters))
    (λ p. record { u = p.0.0.0.0; clients = p.0.0.0.1; executors = p.0.0.1; verifiers = p.0.1; letters = p.1 })
    (λ _. refl)

-- what the client of this number was given; clients are numbered from 1
abbrev pub given_to : List ClientSlot → ℕ → Option (List ℕ)
given_to clients zero = None
given_to clients (suc i) = option_map (λ slot. slot.given) (slice_get clients i)
