use Rattle.std.proofs.Common.{ap, ◌∙◌, subst}
use Rattle.std.specs.Prelude.{◌≡◌, IfOk}
use Rattle.std.specs.Arc.{arc_value}
use Rattle.items.specs.Map.{Items}
use Rattle.pages.specs.declared.layout.Layout.{Layout}
use Rattle.pages.specs.Group.{AreUnwrittenKept}
use Rattle.pages.specs.Joined.{joined_pages}
use Rattle.pages.proofs.GroupLemmas.{snapshot-from_kept}
use Rattle.pages.proofs.grouped_pages.GroupedPages.seal.Goals as goal

pub seal_written-requires : goal.seal_written-requires
seal_written-requires c =
    subst (λ (kind : Layout). AreUnwrittenKept kind c.self.inside.groups (arc_value c.self.inside.tree) c.self.inside.written) (c.are_same.ensures c.if-not-are_same.false) c.self.invariant.0

pub of_groups-requires : goal.of_groups-requires
of_groups-requires c = snapshot-from_kept c.args.layout c.seal_written.new.self (arc_value c.seal_written.new.tree) c.in_ok-seal_written.ensures.kept

pub returns : goal.returns
returns c =
    subst (λ (m : Items). IfOk c.of_groups.result (λ snapshot. snapshot ≡ record { items = m; layout = c.args.layout }))
    (ap joined_pages c.in_ok-seal_written.ensures.items ∙ c.self.view_is) c.of_groups.ensures
