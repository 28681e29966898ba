use Rattle.std.proofs.Common.{◌≡◌, map, take}
use Rattle.serde_json.specs.View.{view}
use Rattle.status.specs.Data.{folder_data}
use Rattle.status.proofs.data.folders_json.Given as goal

-- the values so far are those of the first elements
abbrev pub invariant-loop-folder : goal.invariant-loop-folder
invariant-loop-folder l = map view l.values.items ≡ map folder_data (take l.folder-index l.folders)
