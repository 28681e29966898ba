use Rattle.std.proofs.Common.{sym, ap, ◌∙◌, length}
use Rattle.std.specs.FinMap.{entries, from_entries}
use Rattle.merkle.specs.Shape.{pairs}
use Rattle.merkle.specs.Tree.{shape}
use Rattle.merkle.proofs.MapLemmas.{unique_pairs}
use Rattle.merkle.proofs.AliveMapLemmas.{length_unique}
use Rattle.merkle.proofs.merkle_map.MerkleMap.len.Goals as goal

pub returns-clause-mapped : goal.returns-clause-mapped
returns-clause-mapped g c =
    c.self.invariant.counted
    ∙ sym (length_unique g.met.K.Ord.total g.met.K.TreeKey.only_equal_tie (pairs (shape c.self.inside.tree)) (unique_pairs g.met.K.Ord.total g.met.K.TreeKey.only_equal_tie g.K.TreeKey.bit g.K.TreeKey.BITS 0 (shape c.self.inside.tree) c.self.invariant.trie))
    ∙ ap (λ es. length (entries (from_entries {R = g.K.Ord.cmp} es))) c.self.view_is
