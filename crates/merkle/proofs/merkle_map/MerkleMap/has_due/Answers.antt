use Rattle.std.proofs.Common.{◌≡◌, Bool, true, false, not, sym, ap, ◌∙◌, subst}
use Rattle.std.specs.FinMap.{from_entries}
use Rattle.merkle.specs.Shape.{least}
use Rattle.merkle.specs.Tree.{shape}
use Rattle.merkle.specs.Alive.{is_above, alive_map}
use Rattle.merkle.proofs.AliveMapLemmas.{none_due, some_due}
use Rattle.merkle.proofs.merkle_map.MerkleMap.has_due.Goals as goal

turned : (b r : Bool) → not b ≡ r → b ≡ not r
turned true r e = ap not e
turned false r e = ap not e

pub returns-clause-none : goal.returns-clause-none
returns-clause-none g c = λ off.
    let above : is_above c.args.moment (least g.V.TreeValue.due (shape c.self.inside.tree)) ≡ true = ap (is_above c.args.moment) (sym c.self.invariant.soonest) ∙ sym c.is_above.ensures ∙ turned _ _ off in
    subst (λ es. alive_map g.V.TreeValue.due c.args.moment (from_entries {R = g.K.Ord.cmp} es) ≡ from_entries es) c.self.view_is
    (none_due g.met.K.Ord.total g.met.K.TreeKey.only_equal_tie g.V.TreeValue.due c.args.moment g.K.TreeKey.bit g.K.TreeKey.BITS (shape c.self.inside.tree) c.self.invariant.trie above)

pub returns-clause-some : goal.returns-clause-some
returns-clause-some g c = λ on.
    let low : is_above c.args.moment (least g.V.TreeValue.due (shape c.self.inside.tree)) ≡ false = ap (is_above c.args.moment) (sym c.self.invariant.soonest) ∙ sym c.is_above.ensures ∙ turned _ _ on in
    subst (λ es. alive_map g.V.TreeValue.due c.args.moment (from_entries {R = g.K.Ord.cmp} es) ≡ from_entries es → ⊥) c.self.view_is
    (some_due g.met.K.Ord.total g.met.K.TreeKey.only_equal_tie g.V.TreeValue.due c.args.moment g.K.TreeKey.bit g.K.TreeKey.BITS (shape c.self.inside.tree) c.self.invariant.trie low)
