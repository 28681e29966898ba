use Rattle.std.proofs.Common.{◌≡◌, ◌+◌, length}
use Rattle.data_folders.proofs.opening.open_each.Given as goal

-- each folder so far has an entry
abbrev pub invariant-loop-folder : goal.invariant-loop-folder
invariant-loop-folder l = length l.opened.finds.items ≡ length l.initial.opened.finds.items + l.folder-index
