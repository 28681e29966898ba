use Rattle.std.proofs.Common.{◌≡◌, ℕ, ◌<◌, ◌≤◌, false}
use Rattle.pages.specs.Others.{has_page, IsChangedAt}
use Rattle.states.proofs.changes.changed_pages.Given as goal

-- of the pages so far the set has just those that are not the same, and of the others none
abbrev pub invariant-loop-number : goal.invariant-loop-number
invariant-loop-number l = ((p : ℕ) → p < l.number → IsChangedAt l.before.items l.after.items p (has_page l.changed p)) × ((p : ℕ) → l.number ≤ p → has_page l.changed p ≡ false)
