use Rattle.std.proofs.Common.{◌≡◌, ℕ, ◌<◌, length, slice_index}
use Rattle.seals.proofs.tags.differences.Given as goal

abbrev pub invariant-loop-x : goal.invariant-loop-x
invariant-loop-x l = record {
  same : l.bits ≡ 0 → (k : ℕ) → k < length l.yielded → slice_index l.left k ≡ slice_index l.right k;
  none : l.left ≡ l.right → l.bits ≡ 0;
}
