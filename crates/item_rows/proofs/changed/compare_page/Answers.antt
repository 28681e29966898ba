use Rattle.std.proofs.Common.{sym, subst}
use Rattle.std.proofs.lemmas.Result.{IfOk-weaker}
use Rattle.pages.specs.Page.{page_items}
use Rattle.pages.specs.Differing.{ArePageDifferences}
use Rattle.item_rows.proofs.NotedLemmas.{Entries}
use Rattle.item_rows.proofs.ChangedLemmas.{page_noted}
use Rattle.item_rows.proofs.changed.compare_page.Goals as goal

pub returns : goal.returns
returns c =
    let old = c.args.old.now in
    let new = c.args.new.now in
    IfOk-weaker c.compare.result _ _ (λ changes noted.
    page_noted c.args.number old new c.as_slice.result.now c.as_slice-2.result.now changes.items
    (subst (λ (es : Entries). ArePageDifferences 55 old.layout (page_items old.items c.args.number) new.layout (page_items new.items c.args.number) es c.as_slice-2.result.now) (sym c.as_slice.ensures.value)
    (subst (λ (es : Entries). ArePageDifferences 55 old.layout (page_items old.items c.args.number) new.layout (page_items new.items c.args.number) c.in_ok-before.before.items es) (sym c.as_slice-2.ensures.value) c.in_ok-before.ensures)) noted) c.compare.ensures
