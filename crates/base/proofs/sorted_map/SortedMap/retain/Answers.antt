use Rattle.base.proofs.MapLemmas.{sorted_kept}
use Rattle.base.proofs.sorted_map.SortedMap.retain.Goals as goal

pub invariant_of-self : goal.invariant_of-self
invariant_of-self g c = let left = c.retain.ensures.filtered in rw left.4 (sorted_kept g.K.Ord.cmp left.0 c.self.inside.entries.items c.self.invariant)

pub returns-clause-sorted : goal.returns-clause-sorted
returns-clause-sorted g c = let left = c.retain.ensures.filtered in rw left.4 (sorted_kept g.K.Ord.cmp left.0 c.self.inside.entries.items c.self.invariant)
