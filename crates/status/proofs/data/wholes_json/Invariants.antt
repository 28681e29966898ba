use Rattle.std.proofs.Common.{◌≡◌, map, take}
use Rattle.serde_json.specs.View.{view}
use Rattle.status.specs.Data.{whole}
use Rattle.status.proofs.data.wholes_json.Given as goal

-- the values so far are those of the first elements
abbrev pub invariant-loop-count : goal.invariant-loop-count
invariant-loop-count l = map view l.values.items ≡ map whole (take l.count-index l.counts)
