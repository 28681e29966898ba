use Rattle.std.proofs.Common.{ℕ, [], ◌∷◌, ◌++◌, sym, ap, ◌∙◌, arith, vec_len, replicate}
use Rattle.std.proofs.lemmas.Grind.{replicate_next}
use Rattle.slots.specs.Slots.{nothing_kept}
use Rattle.member.proofs.process_form.new_keepers.Goals as goal

pub loop-keepers-preserved : goal.loop-keepers-preserved
loop-keepers-preserved g c = record {
  made =
      c.push_reserved.ensures.items
      ∙ ((λ i. c.loop-keepers.invariant.made i ++ c.new.ensures i ∷ [])
      ∙ (sym (replicate_next (vec_len c.loop-keepers.keepers) nothing_kept)
      ∙ ap (λ (k : ℕ). replicate k nothing_kept) (sym c.push_reserved.ensures.len)));
  most = omega (arith, c.push_reserved.ensures.len, c.loop-keepers-test.true);
  room = omega (arith, c.push_reserved.ensures.capacity, c.loop-keepers.invariant.room);
}
