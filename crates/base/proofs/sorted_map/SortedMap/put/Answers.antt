use Rattle.base.proofs.MapLemmas.{put_sorted}
use Rattle.base.proofs.sorted_map.SortedMap.put.Goals as goal

pub invariant_of-self : goal.invariant_of-self
invariant_of-self g c = put_sorted g.met.K.Ord.total c.put_entry.result c.self.inside.entries.items _ c.args.entry.0 c.args.entry.1 c.self.invariant c.put_entry.ensures.ok c.put_entry.ensures.err

pub returns-clause-sorted : goal.returns-clause-sorted
returns-clause-sorted g c = put_sorted g.met.K.Ord.total c.put_entry.result c.self.inside.entries.items _ c.args.entry.0 c.args.entry.1 c.self.invariant c.put_entry.ensures.ok c.put_entry.ensures.err
