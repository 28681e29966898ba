-- The first world, in which all replicas were opened.
use Rattle.std.specs.Prelude.{ℕ, zero, suc, true, false, List, [], ◌∷◌, ◌++◌, Some}
use Rattle.decrees.specs.Count.{member_count}
use Rattle.exec_lines.specs.State.{new_executor}
use Rattle.exec_lines.specs.Record.{executor_text}
use Rattle.exec_node.specs.Executor.{ExecutorView}
use Rattle.verifier.specs.State.{new_state}
use Rattle.verifier.specs.Record.{record_text}
use Rattle.verifier.specs.Verifier.{VerifierView}
use Rattle.events.specs.Config.{ConfigView}
use Rattle.slots.specs.Slot.{Slot}
use Rattle.slots.specs.declared.slot.Slot.TheVariants.{Up}
use Rattle.worlds.specs.World.{WorldView, new_clients}

-- an executor that was just opened, and never before: this is what its first record says
abbrev pub first_executor : ℕ → ℕ → ExecutorView
first_executor u id = record { id = id; u = u; state = new_executor; up = true; saved = Some (executor_text u id new_executor); failures = 0; told = false }

-- a verifier alike
abbrev pub first_verifier : ℕ → ℕ → VerifierView
first_verifier u id = record { id = id; u = u; state = new_state u id; up = true; saved = Some (record_text u id (new_state u id)); failures = 0; told = false }

-- so many replicas that are up, by their numbers from 0 on
abbrev pub all_up : {N : Type 0} → (ℕ → N) → ℕ → List (Slot N)
all_up node zero = []
all_up node (suc n) = all_up node n ++ Up (node n) ∷ []

-- nothing came of a client yet, all replicas are up, and no letter was sent
abbrev pub first_world : ConfigView → WorldView
first_world c = record {
  u = c.u;
  clients = new_clients c.u c.clients;
  executors = all_up (first_executor c.u) (member_count c.u);
  verifiers = all_up (first_verifier c.u) (member_count c.u);
  letters = [];
}
