use Rattle.std.proofs.Common.{ℕ, ◌<◌, ◌≢◌}
use Rattle.std.specs.Prelude.{IfSome}
use Rattle.pages.specs.Old.{old_entries, given_at}
use Rattle.states.proofs.old_record.are_others.Given as goal

abbrev pub invariant-loop-number : goal.invariant-loop-number
invariant-loop-number l = (p : ℕ) → p < l.number → IfSome (given_at l.given p) (λ es. old_entries l.before.items p ≢ old_entries l.after.items p)
