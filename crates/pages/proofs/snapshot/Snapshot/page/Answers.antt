use Rattle.std.proofs.Common.{List, ◌∙◌, ap, get_or}
use Rattle.std.specs.Arc.{arc_value}
use Rattle.pages.specs.Page.{PageState, Laid, page_items}
use Rattle.pages.proofs.StateLemmas.{part-at, laid-at}
use Rattle.pages.proofs.snapshot.Snapshot.page.Goals as goal

pub returns-clause-items : goal.returns-clause-items
returns-clause-items c =
    part-at (arc_value c.self.inside.groups) c.args.number c.page.result.now c.self.invariant.sealed.are c.requires
    (c.page.ensures ∙ ap (λ (ps : List PageState). get_or ps c.args.number c.page.result.now) c.deref.ensures)
    ∙ ap (λ (s : Laid). page_items s.items c.args.number) c.self.view_is

pub returns-clause-layout : goal.returns-clause-layout
returns-clause-layout c =
    laid-at c.self.inside.layout (arc_value c.self.inside.groups) c.args.number c.page.result.now c.self.invariant.sealed c.requires
    (c.page.ensures ∙ ap (λ (ps : List PageState). get_or ps c.args.number c.page.result.now) c.deref.ensures)
    ∙ ap (λ (s : Laid). s.layout) c.self.view_is
