use Rattle.std.proofs.Common.{◌≡◌, ◌++◌, map}
use Rattle.ensemble.specs.Kept.{down_verifier}
use Rattle.ensemble.proofs.process_record.down_verifiers.Given as goal

abbrev pub invariant-loop-keeper : goal.invariant-loop-keeper
invariant-loop-keeper l = record {
  whole : l.yielded ++ l.keeper-iterator.rest.items ≡ l.fn.keepers.items;
  made : l.slots.items ≡ map down_verifier l.yielded;
}
