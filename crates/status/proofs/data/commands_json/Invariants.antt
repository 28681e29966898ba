use Rattle.std.proofs.Common.{◌≡◌, map, take}
use Rattle.serde_json.specs.View.{view}
use Rattle.status.specs.Data.{outcomes_data}
use Rattle.status.proofs.data.commands_json.Given as goal

-- the values so far are those of the first elements
abbrev pub invariant-loop-kind : goal.invariant-loop-kind
invariant-loop-kind l = map view l.values.items ≡ map (outcomes_data l.commands) (take l.kind-index l.kinds)
