use Rattle.std.proofs.Common.{sym, ap, ◌∙◌, subst, length}
use Rattle.merkle.specs.Shape.{IsTrie, pairs, least}
use Rattle.merkle.proofs.merkle_map.MerkleMapClone.clone.Goals as goal

pub invariant_of-result : goal.invariant_of-result
invariant_of-result g c =
    record {
      trie = subst (IsTrie g.K.TreeKey.bit g.K.TreeKey.BITS 0) (sym c.in_ok-clone.ensures.cases.0) c.self.invariant.trie;
      cached = c.in_ok-clone.ensures.cases.1 g.K.TreeKey.hash g.V.TreeValue.text g.V.TreeValue.due c.self.invariant.cached;
      soonest = c.self.invariant.soonest ∙ ap (least g.V.TreeValue.due) (sym c.in_ok-clone.ensures.cases.0);
      counted = c.self.invariant.counted ∙ ap (λ s. length (pairs s)) (sym c.in_ok-clone.ensures.cases.0);
    }
