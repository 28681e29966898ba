use Rattle.std.proofs.Common.{◌<◌, ◌/◌, ◌%◌, List, [], length, get_or, ap, ◌∙◌, arith}
use Rattle.std.proofs.lemmas.List.{get_or_default}
use Rattle.pages.specs.Page.{PageState}
use Rattle.pages.proofs.GroupLemmas.{page-of}
use Rattle.pages.proofs.groups.Groups.page.Goals as goal

pub returns : goal.returns
returns c =
    let gs = c.self.inside.groups.items in
    let n = c.args.number in
    let d = c.page.result.now in
    let within : c.args.number / 16 < length c.self.inside.groups.items = omega (arith, c.requires, c.self.invariant.count) in
    c.page.ensures ∙ ap (λ (ps : List PageState). get_or ps (n % 16) d) (c.index.ensures ∙ get_or_default gs (n / 16) c.index.result.now [] within)
    ∙ page-of gs n d c.self.invariant c.requires ∙ ap (λ (ps : List PageState). get_or ps n d) c.self.view_is
