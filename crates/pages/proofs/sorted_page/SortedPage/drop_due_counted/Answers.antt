use Rattle.std.proofs.Common.{◌≡◌, ◌+◌, ◌≤◌, [], length, ap, arith, rules}
use Rattle.std.specs.FinMap.{entries}
use Rattle.std.specs.Arc.{arc_value}
use Rattle.items.specs.Map.{alive}
use Rattle.pages.proofs.DueLemmas.{beside-some}
use Rattle.pages.proofs.PageLemmas.{page-written, fits-alive}
use Rattle.pages.proofs.sorted_page.SortedPage.drop_due_counted.Goals as goal

pub invariant_of-self-2 : goal.invariant_of-self-2
invariant_of-self-2 c =
    let old = arc_value c.self.inside.store in
    let is : arc_value (c.make_mut.follows.lender c.drop_found.new.self) ≡ alive (arc_value c.self.inside.store) c.args.moment = search rules in
    page-written _ (alive old c.args.moment) _ is c.forget.ensures (fits-alive old c.args.moment c.self.invariant.fits)

pub returns-clause-count : goal.returns-clause-count
returns-clause-count c =
    let m = c.args.self.now in
    let some = beside-some c.args.moment m [] (c.finds_due.ensures.some c.if-not-finds_due.false) in
    let long : length c.entries.result.now ≡ length (entries m) = ap length c.entries.ensures.entries in
    let looked : c.drop_found.new.looks + length (entries (c.make_mut.follows.lender c.drop_found.new.self).value) ≤ length (entries m) + 1 = search rules in
    let added = c.saturating_add.ensures in
    omega (arith, some, long, looked, added)

pub returns-clause-least : goal.returns-clause-least
returns-clause-least c =
    let m = c.args.self.now in
    let some = beside-some c.args.moment m [] (c.finds_due.ensures.some c.if-not-finds_due.false) in
    let long : length c.entries.result.now ≡ length (entries m) = ap length c.entries.ensures.entries in
    let fits = c.self.invariant.fits in
    let added = c.saturating_add.ensures in
    omega (arith, some, long, added, c.entries.ensures.fit)

pub returns-clause-dropped : goal.returns-clause-dropped
returns-clause-dropped c =
    let m = c.args.self.now in
    let long : length c.entries.result.now ≡ length (entries m) = ap length c.entries.ensures.entries in
    let added = c.saturating_add.ensures in
    omega (arith, long, added, c.entries.ensures.fit)
