use Rattle.std.proofs.Common.{◌≡◌, ◌-◌, map}
use Rattle.std.specs.Prelude.{vec_len}
use Rattle.round.proofs.Collects.{Taken}
use Rattle.round.proofs.close.collect.Given as goal

abbrev pub invariant-loop-taken : goal.invariant-loop-taken
invariant-loop-taken l =
    (vec_len l.lists ≡ l.callers) × (vec_len l.fn.lists ≡ l.callers)
    × Taken (map (λ v. v.items) l.lists.items) (map (λ v. v.items) l.fn.lists.items) l.callers (l.requests - l.taken) l.requests l.ran.items
