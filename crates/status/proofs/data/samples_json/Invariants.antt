use Rattle.std.proofs.Common.{◌≡◌, map, take}
use Rattle.serde_json.specs.View.{view}
use Rattle.status.specs.Data.{sample_data}
use Rattle.status.proofs.data.samples_json.Given as goal

-- the values so far are those of the first elements
abbrev pub invariant-loop-sample : goal.invariant-loop-sample
invariant-loop-sample l = map view l.values.items ≡ map sample_data (take l.sample-index l.samples)
