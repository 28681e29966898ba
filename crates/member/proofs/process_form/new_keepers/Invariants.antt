use Rattle.std.proofs.Common.{◌≡◌, ◌≤◌, ◌-◌, vec_len, vec_capacity, replicate}
use Rattle.slots.specs.Slots.{nothing_kept}
use Rattle.member.proofs.process_form.new_keepers.Given as goal

abbrev pub invariant-loop-keepers : goal.invariant-loop-keepers
invariant-loop-keepers g l = record {
  made : l.keepers.items ≡ replicate (vec_len l.keepers) nothing_kept;
  most : vec_len l.keepers ≤ l.fn.count;
  room : l.fn.count ≤ vec_capacity l.keepers;
}

abbrev pub decreases-loop-keepers : goal.decreases-loop-keepers
decreases-loop-keepers g l = l.fn.count - vec_len l.keepers
