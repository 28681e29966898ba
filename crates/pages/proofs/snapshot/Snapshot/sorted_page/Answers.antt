use Rattle.std.proofs.Common.{ap, ◌∙◌}
use Rattle.std.specs.FinMap.{entries}
use Rattle.pages.proofs.PartLemmas.{entries-page_items}
use Rattle.pages.proofs.snapshot.Snapshot.sorted_page.Goals as goal

pub sorted_entries-requires : goal.sorted_entries-requires
sorted_entries-requires c = c.page.ensures.layout ∙ c.requires.sorted

pub returns-clause-entries : goal.returns-clause-entries
returns-clause-entries c =
    c.sorted_entries.ensures.entries ∙ ap entries c.page.ensures.items ∙ entries-page_items c.args.self.now.items c.args.number
