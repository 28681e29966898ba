use Rattle.std.proofs.Common.{◌≡◌, sym, ◌∙◌, rules}
use Rattle.std.specs.Arc.{arc_value}
use Rattle.std.specs.FinMap.{get, remove}
use Rattle.pages.proofs.PageLemmas.{page-written, fits-remove, remove-absent, found-is, none-found}
use Rattle.pages.proofs.sorted_page.SortedPage.remove.Goals as goal

pub invariant_of-self-then-is_some : goal.invariant_of-self-then-is_some
invariant_of-self-then-is_some c =
    let old = arc_value c.self.inside.store in
    let is : arc_value (c.make_mut.follows.lender c.remove.new.self) ≡ remove (arc_value c.self.inside.store) c.args.key.now = search rules in
    page-written _ (remove old c.args.key.now) _ is c.forget.ensures (fits-remove old c.args.key.now c.self.invariant.fits)

pub returns-else-is_some-clause-ok : goal.returns-else-is_some-clause-ok
returns-else-is_some-clause-ok c =
    sym (remove-absent c.args.self.now c.args.key.now (none-found _
    (found-is c.get.result (get c.args.self.now c.args.key.now) c.is_some.result c.get.ensures c.is_some.ensures ∙ c.if-is_some.false)))
