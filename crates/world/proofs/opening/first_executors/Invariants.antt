use Rattle.std.proofs.Common.{◌≡◌, ◌≤◌, vec_len, vec_capacity}
use Rattle.worlds.specs.First.{first_executor, all_up}
use Rattle.world.proofs.opening.first_executors.Given as goal

abbrev pub invariant-loop-id : goal.invariant-loop-id
invariant-loop-id l = record {
  made : l.slots.items ≡ all_up (first_executor l.u) l.id;
  count : vec_len l.slots ≡ l.id;
  room : l.fn.count ≤ vec_capacity l.slots;
}
