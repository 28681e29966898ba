use Rattle.std.proofs.Common.{length, ap, ◌∙◌}
use Rattle.std.specs.FinMap.{entries}
use Rattle.items.specs.Map.{Items}
use Rattle.pages.proofs.grouped_pages.GroupedPages.len.Goals as goal

pub count-requires : goal.count-requires
count-requires c = c.self.invariant.0.are

pub returns : goal.returns
returns c = c.count.ensures ∙ ap (λ (m : Items). length (entries m)) c.self.view_is
