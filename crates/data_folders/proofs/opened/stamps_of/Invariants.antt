use Rattle.std.proofs.Common.{◌≡◌, map, take}
use Rattle.data_folders.specs.Copies.{found_stamp}
use Rattle.data_folders.proofs.opened.stamps_of.Given as goal

-- the stamps so far are those of the first copies
abbrev pub invariant-loop-found : goal.invariant-loop-found
invariant-loop-found l = l.stamps.items ≡ map found_stamp (take l.found-index l.finds)
