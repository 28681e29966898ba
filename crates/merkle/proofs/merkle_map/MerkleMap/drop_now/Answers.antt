use Rattle.std.proofs.Common.{sym, ap, ◌∙◌}
use Rattle.std.proofs.lemmas.Result.{on_ok_weaker}
use Rattle.std.specs.FinMap.{from_entries}
use Rattle.merkle.specs.Shape.{pairs}
use Rattle.merkle.specs.Tree.{shape}
use Rattle.merkle.specs.Alive.{alive_map}
use Rattle.merkle.proofs.AliveMapLemmas.{dropped}
use Rattle.merkle.proofs.merkle_map.MerkleMap.drop_now.Goals as goal

pub returns-clause-ok : goal.returns-clause-ok
returns-clause-ok g c =
    on_ok_weaker c.drop_at.result (λ alive.
    dropped g.met.K.Ord.total g.met.K.TreeKey.only_equal_tie g.V.TreeValue.due c.args.moment g.K.TreeKey.bit g.K.TreeKey.BITS (shape c.self.inside.tree) (pairs (shape c.drop_at.new.tree)) c.self.invariant.trie (sym alive ∙ c.drop_at.ensures.part.same)
    ∙ ap (λ es. alive_map g.V.TreeValue.due c.args.moment (from_entries {R = g.K.Ord.cmp} es)) c.self.view_is) c.drop_at.ensures.ok
