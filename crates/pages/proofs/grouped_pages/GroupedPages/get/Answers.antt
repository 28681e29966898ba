use Rattle.std.proofs.Common.{sym, ap, ◌∙◌}
use Rattle.std.specs.FinMap.{get}
use Rattle.items.specs.Map.{Items}
use Rattle.pages.specs.Joined.{items_of}
use Rattle.pages.proofs.JoinedLemmas.{joined_at}
use Rattle.pages.proofs.StateLemmas.{items-read}
use Rattle.pages.proofs.grouped_pages.GroupedPages.get.Goals as goal

pub returns : goal.returns
returns c =
    let pages = c.self.inside.groups in
    let are = c.self.invariant.0.are in
    c.get.ensures
    ∙ ap (λ (m : Items). get m c.args.key.now) (items-read pages c.page_of.result _ c.page.result.now are c.page_of.ensures.number c.page_of.ensures.small c.page.ensures)
    ∙ sym (joined_at (items_of pages) c.args.key.now are) ∙ ap (λ (m : Items). get m c.args.key.now) c.self.view_is
