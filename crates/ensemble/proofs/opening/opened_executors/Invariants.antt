use Rattle.std.proofs.Common.{◌≡◌, ◌≤◌, vec_len, vec_capacity}
use Rattle.ensemble.specs.First.{first_hosts}
use Rattle.ensemble.proofs.opening.opened_executors.Given as goal

abbrev pub invariant-loop-id : goal.invariant-loop-id
invariant-loop-id l = record {
  made : l.hosts.items ≡ first_hosts l.u l.id;
  count : vec_len l.hosts ≡ l.id;
  room : l.fn.count ≤ vec_capacity l.hosts;
}
