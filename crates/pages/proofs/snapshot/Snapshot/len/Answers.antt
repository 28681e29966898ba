use Rattle.std.proofs.Common.{length, ap, ◌∙◌}
use Rattle.std.specs.FinMap.{entries}
use Rattle.items.specs.Map.{Items}
use Rattle.pages.proofs.PartLemmas.{entries-page_items}
use Rattle.pages.proofs.snapshot.Snapshot.len.Goals as goal

pub returns-clause-len : goal.returns-clause-len
returns-clause-len c =
    c.len.ensures.len
    ∙ ap (λ (m : Items). length (entries m)) c.page.ensures.items
    ∙ ap length (entries-page_items c.args.self.now.items c.args.number)
