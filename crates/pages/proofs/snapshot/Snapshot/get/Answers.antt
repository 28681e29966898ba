use Rattle.std.proofs.Common.{Bool, cond, None, sym, ap, ◌∙◌}
use Rattle.std.specs.FinMap.{get}
use Rattle.std.proofs.lemmas.Bool.{eq-eqb}
use Rattle.items.specs.Map.{Items}
use Rattle.pages.specs.Page.{page_number}
use Rattle.pages.proofs.PartLemmas.{get-page_items}
use Rattle.pages.proofs.snapshot.Snapshot.get.Goals as goal

pub returns : goal.returns
returns c =
    let key = c.args.key.now in
    let items = c.args.self.now.items in
    c.get.ensures ∙ ap (λ (m : Items). get m key) c.page.ensures.items ∙ get-page_items items c.page_of.result key
    ∙ ap (λ (own : Bool). cond own (get items key) None) (eq-eqb (page_number key) c.page_of.result (sym c.page_of.ensures.number))
