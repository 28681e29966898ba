use Rattle.std.proofs.Common.{◌≡◌, ℕ, ◌<◌, [], length, get_or}
use Rattle.pages.specs.Tree.{branch_root}
use Rattle.pages.specs.declared.group.TheConstants.{GROUPS}
use Rattle.pages.proofs.tree.roots_of.Given as goal

-- the roots so far are in their places
abbrev pub invariant-loop-group : goal.invariant-loop-group
invariant-loop-group l = (length l.roots ≡ GROUPS) × ((k : ℕ) → k < l.group → get_or l.roots k [] ≡ branch_root (get_or l.branches.items k []))
