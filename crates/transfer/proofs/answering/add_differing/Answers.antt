use Rattle.std.proofs.Common.{◌≡◌, sym, subst, rules}
use Rattle.pages.specs.Page.{page_items}
use Rattle.pages.specs.Joined.{IsOwn}
use Rattle.states.proofs.PageTextLemmas.{own_page_items}
use Rattle.transfer.proofs.answering.add_differing.Goals as goal

pub new-requires-clause-own : goal.new-requires-clause-own
new-requires-clause-own c =
    let page : c.in_ok-clone.field-0.items ≡ page_items c.args.state.now.items c.args.number = search rules in
    subst (IsOwn c.args.number) (sym page) (own_page_items c.args.state.now.items c.args.number)
