use Rattle.std.proofs.Common.{sym, arith, length, ap}
use Rattle.batches.proofs.PartLemmas.{took, ended}
use Rattle.batches.proofs.held.part.Goals as goal

pub loop-request-preserved-then-fresh : goal.loop-request-preserved-then-fresh
loop-request-preserved-then-fresh c =
    let before = rw c.in-Some.ensures.steps at c.loop-request.invariant.0 in
    let shorter = ap length c.in-Some.ensures.steps in (
      rw c.push_reserved.ensures.items (took _ _ c.in-Some.request before (omega arith) (sym c.if-fresh.ensures)),
      omega (arith, shorter),
      omega arith,
      omega (arith, shorter),
    )

pub returns-clause-left : goal.returns-clause-left
returns-clause-left c = ended _ _ c.requires.one_each (rw c.in-None.ensures.steps.0 at c.loop-request.invariant.0)
