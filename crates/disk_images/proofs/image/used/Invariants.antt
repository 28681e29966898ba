use Rattle.std.proofs.Common.{◌≡◌, ℕ, ◌<◌, ◌≤◌, slice_index}
use Rattle.disk_images.proofs.image.used.Given as goal

abbrev pub invariant-loop-at : goal.invariant-loop-at
invariant-loop-at l = record {
  within : l.end ≤ l.at;
  zeros : (i : ℕ) → l.end ≤ i → i < l.at → slice_index l.bytes i ≡ 0;
}
