use Rattle.std.proofs.Common.{ap, ◌∙◌}
use Rattle.std.specs.FinMap.{from_entries}
use Rattle.merkle.specs.Tree.{shape}
use Rattle.merkle.specs.Digest.{map_digest}
use Rattle.merkle.proofs.MapLemmas.{same_map_digest}
use Rattle.merkle.proofs.merkle_map.MerkleMap.digest.Goals as goal

pub returns : goal.returns
returns g c =
    c.digest_at.ensures
    ∙ same_map_digest g.met.K.Ord.total g.met.K.TreeKey.only_equal_tie g.V.TreeValue.text g.K.TreeKey.bit g.K.TreeKey.BITS (shape c.self.inside.tree) c.self.invariant.trie
    ∙ ap (λ es. map_digest g.V.TreeValue.text g.K.TreeKey.bit g.K.TreeKey.BITS (from_entries {R = g.K.Ord.cmp} es)) c.self.view_is
