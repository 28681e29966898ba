use Rattle.std.proofs.Common.{List, ap, ◌∙◌, subst}
use Rattle.pages.specs.Page.{PageState}
use Rattle.pages.specs.Group.{page_at, page_in_group}
use Rattle.pages.specs.Known.{IsStill}
use Rattle.pages.proofs.GroupLemmas.{page-read}
use Rattle.pages.proofs.groups.Groups.has_due_in.Goals as goal

pub returns : goal.returns
returns c quiet i l =
    subst (λ (page : PageState). IsStill c.args.moment page)
    (page-read c.self.inside.groups.items c.args.group i c.index.result.now c.self.invariant c.requires l c.index.ensures
    ∙ ap (λ (ps : List PageState). page_at ps (page_in_group c.args.group i)) c.self.view_is)
    (c.has_due.ensures quiet i l)
