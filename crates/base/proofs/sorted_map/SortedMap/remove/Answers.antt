use Rattle.std.proofs.Common.{not}
use Rattle.std.specs.Ordering.{eq_by_cmp}
use Rattle.base.proofs.MapLemmas.{sorted_without}
use Rattle.base.proofs.sorted_map.SortedMap.remove.Goals as goal

pub invariant_of-self : goal.invariant_of-self
invariant_of-self g c = rw c.remove_entry.ensures (sorted_without g.met.K.Ord.total (λ k. not (eq_by_cmp g.K.Ord.cmp c.args.key.now k)) _ c.self.invariant)

pub returns-clause-sorted : goal.returns-clause-sorted
returns-clause-sorted g c = rw c.remove_entry.ensures (sorted_without g.met.K.Ord.total (λ k. not (eq_by_cmp g.K.Ord.cmp c.args.key.now k)) _ c.self.invariant)
