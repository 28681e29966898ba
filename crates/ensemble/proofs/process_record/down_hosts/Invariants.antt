use Rattle.std.proofs.Common.{◌≡◌, ◌≤◌, ◌++◌, length, map, vec_len, vec_capacity}
use Rattle.ensemble.specs.Kept.{down_host}
use Rattle.ensemble.proofs.process_record.down_hosts.Given as goal

abbrev pub invariant-loop-keeper : goal.invariant-loop-keeper
invariant-loop-keeper l = record {
  whole : l.yielded ++ l.keeper-iterator.rest.items ≡ l.fn.keepers.items;
  made : l.hosts.items ≡ map down_host l.yielded;
  count : vec_len l.hosts ≡ length l.yielded;
  room : length l.fn.keepers.items ≤ vec_capacity l.hosts;
}
