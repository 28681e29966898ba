use Rattle.std.proofs.Common.{◌≡◌, ℕ, ◌<◌, ◌+◌, ◌*◌}
use Rattle.token.specs.declared.tree.TheConstants.{OLD_PAGES}
use Rattle.pages.specs.Page.{page_items}
use Rattle.states.proofs.old_record.is_same_old.Given as goal

-- the parts so far are the same
abbrev pub invariant-loop-part : goal.invariant-loop-part
invariant-loop-part l = (i : ℕ) → i < l.part → page_items l.before.items (l.number + i * OLD_PAGES) ≡ page_items l.after.items (l.number + i * OLD_PAGES)
