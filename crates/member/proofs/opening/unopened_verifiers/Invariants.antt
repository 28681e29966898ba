use Rattle.std.proofs.Common.{◌≡◌, ◌≤◌, ◌-◌, vec_len, vec_capacity, replicate}
use Rattle.slots.specs.declared.slot.Slot.TheVariants.{Down}
use Rattle.slots.specs.Slots.{nothing_kept}
use Rattle.verifier.specs.Verifier.{VerifierView}
use Rattle.slots.specs.Slot.{Slot}
use Rattle.member.proofs.opening.unopened_verifiers.Given as goal

abbrev pub invariant-loop-slots : goal.invariant-loop-slots
invariant-loop-slots l = record {
  made : (let x : Slot VerifierView = Down nothing_kept in l.slots.items ≡ replicate (vec_len l.slots) x);
  most : vec_len l.slots ≤ l.fn.count;
  room : l.fn.count ≤ vec_capacity l.slots;
}

abbrev pub decreases-loop-slots : goal.decreases-loop-slots
decreases-loop-slots l = l.fn.count - vec_len l.slots
