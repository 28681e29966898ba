use Rattle.std.proofs.Common.{ℕ, [], ◌∷◌, ◌++◌, sym, ap, ◌∙◌, arith, vec_len, replicate}
use Rattle.std.proofs.lemmas.Grind.{replicate_next}
use Rattle.slots.specs.declared.slot.Slot.TheVariants.{Down}
use Rattle.slots.specs.Slots.{nothing_kept}
use Rattle.verifier.specs.Verifier.{VerifierView}
use Rattle.slots.specs.Slot.{Slot}
use Rattle.member.proofs.opening.unopened_verifiers.Goals as goal

pub loop-slots-preserved : goal.loop-slots-preserved
loop-slots-preserved c =
    let x : Slot VerifierView = Down nothing_kept in
    record {
      made =
          c.push_reserved.ensures.items
          ∙ ((λ i. c.loop-slots.invariant.made i ++ c.unopened.ensures i ∷ [])
          ∙ (sym (replicate_next (vec_len c.loop-slots.slots) x)
          ∙ ap (λ (k : ℕ). replicate k x) (sym c.push_reserved.ensures.len)));
      most = omega (arith, c.push_reserved.ensures.len, c.loop-slots-test.true);
      room = omega (arith, c.push_reserved.ensures.capacity, c.loop-slots.invariant.room);
    }
