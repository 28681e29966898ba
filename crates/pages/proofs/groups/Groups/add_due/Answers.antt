use Rattle.std.proofs.Common.{◌≡◌, ◌+◌, ◌*◌, ℕ, List, ap, ◌∙◌, subst, arith}
use Rattle.pages.specs.Page.{PageState}
use Rattle.pages.specs.Others.{has_page}
use Rattle.pages.specs.Group.{page_at, page_in_group}
use Rattle.pages.specs.Known.{IsStill}
use Rattle.pages.proofs.GroupLemmas.{page-read}
use Rattle.pages.proofs.groups.Groups.add_due.Goals as goal

pub returns-clause-own : goal.returns-clause-own
returns-clause-own c i l out =
    let same : c.args.group * 16 + i ≡ page_in_group c.args.group i = omega arith in
    subst (λ (page : PageState). IsStill c.args.moment page)
    (page-read c.self.inside.groups.items c.args.group i c.index.result.now c.self.invariant c.requires l c.index.ensures
    ∙ ap (λ (ps : List PageState). page_at ps (page_in_group c.args.group i)) c.self.view_is)
    (c.add_due.ensures.own i l (ap (λ (k : ℕ). has_page c.add_due.new.due k) same ∙ out))
