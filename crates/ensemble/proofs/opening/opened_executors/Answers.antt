use Rattle.std.proofs.Common.{sym, ap, ◌∙◌, [], ◌∷◌, ◌++◌, arith}
use Rattle.std.proofs.Math.Numerals.{add-one}
use Rattle.ensemble.specs.First.{first_hosts}
use Rattle.ensemble.proofs.opening.opened_executors.Goals as goal

pub loop-id-preserved : goal.loop-id-preserved
loop-id-preserved c = record {
  made =
      c.push_reserved.ensures.items
      ∙ (λ i. c.loop-id.invariant.made i ++ c.in-Ok.ensures i ∷ [])
      ∙ ap (first_hosts c.args.u) (sym (add-one c.loop-id.id));
  count = omega (arith, c.push_reserved.ensures.len, c.loop-id.invariant.count);
  room = omega (arith, c.push_reserved.ensures.capacity, c.loop-id.invariant.room);
}
