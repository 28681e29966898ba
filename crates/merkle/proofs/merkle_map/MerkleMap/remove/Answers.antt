use Rattle.std.proofs.Common.{sym, ap, ◌∙◌}
use Rattle.std.specs.Prelude.{is_some}
use Rattle.std.specs.FinMap.{find}
use Rattle.merkle.proofs.RemoveLemmas.{absent_removed, none_of}
use Rattle.merkle.proofs.merkle_map.MerkleMap.remove.Goals as goal

pub returns-else-found-clause-ok : goal.returns-else-found-clause-ok
returns-else-found-clause-ok g c =
    absent_removed g.met.K.TreeKey.only_equal_tie g.met.K.Ord.total c.args.key.now c.args.self.now
    (none_of _ (ap (λ es. is_some (find g.K.Ord.cmp c.args.key.now es)) (sym c.self.view_is) ∙ sym c.has_key-found.ensures ∙ c.if-found.false))
