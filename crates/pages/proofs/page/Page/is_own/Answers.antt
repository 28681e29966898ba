use Rattle.std.proofs.Common.{sym, ap, ◌∙◌}
use Rattle.std.specs.List.{list_all}
use Rattle.pages.proofs.OwnLemmas.{is_of, own-in_layout, all-in_layout}
use Rattle.pages.proofs.page.Page.is_own.Goals as goal

pub returns : goal.returns
returns c =
    let page = c.args.self.now in
    let same = c.all_of_page.ensures ∙ ap (list_all (is_of c.args.number)) (c.as_slice.ensures.value ∙ c.in_ok-entries.ensures) in
    (λ yes. own-in_layout c.args.number page.layout page.items (sym same ∙ yes), λ own. same ∙ all-in_layout c.args.number page.layout page.items own)
