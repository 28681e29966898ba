use Rattle.std.proofs.Common.{◌≡◌, List, ℕ, ⊎_elim, sym, subst}
use Rattle.std.specs.Arc.{arc_value}
use Rattle.pages.specs.Group.{AreUnwrittenKept}
use Rattle.pages.proofs.groups.Groups.seal_written.Goals as goal

pub seal_each-requires : goal.seal_each-requires
seal_each-requires c =
    let same : c.in_ok-make_mut.field-0.now ≡ arc_value c.args.tree.now = ⊎_elim (λ e. e) (λ e. e) c.in_ok-make_mut.ensures.value in
    subst (λ (ds : List (List ℕ)). AreUnwrittenKept c.args.layout c.args.self.now ds c.args.written) (sym same) c.requires
