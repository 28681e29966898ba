use Rattle.std.proofs.Common.{◌≡◌, ◌++◌, map, Some}
use Rattle.states.proofs.old_record.all_given.Given as goal

abbrev pub invariant-loop-entries : goal.invariant-loop-entries
invariant-loop-entries l = (l.yielded ++ l.entries-iterator.rest.items ≡ l.fn.entries) × (l.given.items ≡ map (λ es. Some es) l.yielded)
