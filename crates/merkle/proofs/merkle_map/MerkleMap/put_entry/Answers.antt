use Rattle.std.proofs.Common.{◌∙◌}
use Rattle.std.specs.FinMap.{insert, from_entries}
use Rattle.merkle.specs.Shape.{pairs}
use Rattle.merkle.specs.Tree.{shape}
use Rattle.merkle.proofs.MapLemmas.{put_inserts}
use Rattle.merkle.proofs.merkle_map.MerkleMap.put_entry.Goals as goal

pub returns-clause-ok : goal.returns-clause-ok
returns-clause-ok g c =
    put_inserts g.met.K.Ord.total g.met.K.TreeKey.only_equal_tie c.in_ok-leaf.leaf.value.entry.0 c.in_ok-leaf.leaf.value.entry.1 (pairs (shape c.self.inside.tree)) (pairs (shape c.put_at.new.tree)) c.in_ok-put_at.ensures.ok.put
    ∙ (λ i. insert (from_entries {R = g.K.Ord.cmp} (c.self.view_is i)) (c.in_ok-leaf.ensures.same i).0 (c.in_ok-leaf.ensures.same i).1)
