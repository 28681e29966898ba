use Rattle.std.proofs.Common.{◌≡◌, [], rules}
use Rattle.pages.specs.Joined.{items_of}
use Rattle.transfer.proofs.JoinLemmas.{none_put, one_put, all_put}
use Rattle.transfer.proofs.taking.put_all.Goals as goal

pub loop-page-init : goal.loop-page-init
loop-page-init c = none_put (items_of c.args.own.items) c.args.came.items c.requires

pub loop-page-preserved : goal.loop-page-preserved
loop-page-preserved c =
    one_put (items_of c.args.own.items) c.args.came.items c.loop-page.came.items c.pop.new.self.items c.loop-page.pages.items c.number-number.result c.into_page.result c.in-Some.page c.loop-page.invariant
    c.in-Some.ensures.items c.number-number.ensures.number c.number-number.ensures.within c.into_page.ensures.page c.into_page.ensures.own

pub returns-clause-is : goal.returns-clause-is
returns-clause-is c =
    let none : c.loop-page.came.items ≡ [] = search rules in
    all_put (items_of c.args.own.items) c.args.came.items c.loop-page.came.items (items_of c.loop-page.pages.items) c.loop-page.invariant none
