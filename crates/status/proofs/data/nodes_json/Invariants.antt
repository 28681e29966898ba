use Rattle.std.proofs.Common.{◌≡◌, map, take}
use Rattle.serde_json.specs.View.{view}
use Rattle.status.specs.Data.{node_data}
use Rattle.status.proofs.data.nodes_json.Given as goal

-- the values so far are those of the first elements
abbrev pub invariant-loop-node : goal.invariant-loop-node
invariant-loop-node l = map view l.values.items ≡ map node_data (take l.node-index l.nodes)
