use Rattle.std.proofs.Common.{sym, ap, ◌∙◌}
use Rattle.std.specs.FinMap.{get, get-from_entries, from_entries}
use Rattle.merkle.specs.Shape.{pairs}
use Rattle.merkle.specs.Tree.{shape}
use Rattle.merkle.proofs.merkle_map.MerkleMap.get.Goals as goal

pub returns : goal.returns
returns g c =
    c.find_at.ensures ∙ sym (get-from_entries g.met.K.Ord.total (pairs (shape c.self.inside.tree)) c.args.key.now)
    ∙ ap (λ es. get (from_entries {R = g.K.Ord.cmp} es) c.args.key.now) c.self.view_is
