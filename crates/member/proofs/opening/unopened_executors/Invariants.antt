use Rattle.std.proofs.Common.{◌≡◌, ◌≤◌, ◌-◌, [], vec_len, vec_capacity, replicate}
use Rattle.slots.specs.declared.slot.Slot.TheVariants.{Down}
use Rattle.slots.specs.Slots.{nothing_kept}
use Rattle.hosts.specs.Host.{HostView}
use Rattle.member.proofs.opening.unopened_executors.Given as goal

abbrev pub invariant-loop-alloc : goal.invariant-loop-alloc
invariant-loop-alloc l = record {
  made : (let x : HostView = record { slot = Down nothing_kept; held = []; sent = [] } in l.hosts.items ≡ replicate (vec_len l.hosts) x);
  most : vec_len l.hosts ≤ l.fn.count;
  room : l.fn.count ≤ vec_capacity l.hosts;
}

abbrev pub decreases-loop-alloc : goal.decreases-loop-alloc
decreases-loop-alloc l = l.fn.count - vec_len l.hosts
