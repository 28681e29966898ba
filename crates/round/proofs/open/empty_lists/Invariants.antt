use Rattle.std.proofs.Common.{◌≡◌, [], map}
use Rattle.std.specs.List.{range_with_len}
use Rattle.round.specs.Sittings.{running_in, dealt}
use Rattle.round.proofs.open.empty_lists.Given as goal

abbrev pub invariant-loop-made : goal.invariant-loop-made
invariant-loop-made l = map (λ v. v.items) l.lists.items ≡ map (λ c. map (running_in []) (dealt l.callers c [])) (range_with_len 0 l.made)
