use Rattle.std.proofs.Common.{List, ℕ, [], sym, ◌∙◌, subst}
use Rattle.std.specs.Arc.{arc_value}
use Rattle.pages.specs.Page.{PageState}
use Rattle.pages.specs.Group.{AreUnwrittenKept}
use Rattle.pages.proofs.GroupLemmas.{kept-from_snapshot}
use Rattle.pages.proofs.snapshot.Snapshot.grouped.Goals as goal

pub of_sealed-requires : goal.of_sealed-requires
of_sealed-requires c =
    subst (λ (ps : List PageState). AreUnwrittenKept c.self.inside.layout ps (arc_value c.in_ok-tree.tree) []) (sym (c.in_ok-groups.ensures.cases ∙ c.deref.ensures))
    (subst (λ (ds : List (List ℕ)). AreUnwrittenKept c.self.inside.layout (arc_value c.self.inside.groups) ds []) (sym c.in_ok-tree.ensures.cases)
    (kept-from_snapshot c.self.inside.layout (arc_value c.self.inside.groups) (arc_value c.self.inside.tree) c.self.invariant))
