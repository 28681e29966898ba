use Rattle.std.proofs.Common.{ap, ◌∙◌}
use Rattle.std.specs.FinMap.{remove, from_entries}
use Rattle.merkle.specs.Shape.{pairs}
use Rattle.merkle.specs.Tree.{shape}
use Rattle.merkle.proofs.RemoveLemmas.{removal_removes}
use Rattle.merkle.proofs.merkle_map.MerkleMap.remove_found.Goals as goal

pub returns-clause-ok : goal.returns-clause-ok
returns-clause-ok g c =
    removal_removes g.met.K.TreeKey.only_equal_tie g.met.K.Ord.total c.args.key.now (pairs (shape c.self.inside.tree)) (pairs (shape c.remove_at.new.tree)) c.in_ok-remove_at.ensures.ok.removed
    ∙ ap (λ es. remove (from_entries {R = g.K.Ord.cmp} es) c.args.key.now) c.self.view_is
