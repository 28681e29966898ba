use Rattle.std.proofs.Common.{sym, ap, ◌∙◌}
use Rattle.std.specs.FinMap.{from_entries}
use Rattle.merkle.specs.Tree.{shape}
use Rattle.merkle.specs.Digest.{map_pairs}
use Rattle.merkle.proofs.MapLemmas.{same_map_pairs}
use Rattle.merkle.proofs.merkle_map.MerkleMap.put_texts.Goals as goal

pub returns-clause-order : goal.returns-clause-order
returns-clause-order g c =
    sym c.self.view_is
    ∙ same_map_pairs g.met.K.Ord.total g.met.K.TreeKey.only_equal_tie g.K.TreeKey.bit g.K.TreeKey.BITS (shape c.self.inside.tree) c.self.invariant.trie
    ∙ ap (λ es. map_pairs g.K.TreeKey.bit g.K.TreeKey.BITS (from_entries {R = g.K.Ord.cmp} es)) c.self.view_is
