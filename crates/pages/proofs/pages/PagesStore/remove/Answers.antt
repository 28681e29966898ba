use Rattle.std.proofs.Common.{not, sym, ◌∙◌, ap}
use Rattle.std.specs.FinMap.{get}
use Rattle.std.specs.Option.{is_some}
use Rattle.pages.proofs.PageLemmas.{remove-absent, found-is, none-found}
use Rattle.pages.proofs.pages.PagesStore.remove.Goals as goal

pub returns-then-is_none-clause-ok : goal.returns-then-is_none-clause-ok
returns-then-is_none-clause-ok c =
    sym (remove-absent c.args.self.now c.args.key.now (none-found _
    (found-is c.get.result (get c.args.self.now c.args.key.now) (is_some c.get.result) c.get.ensures (λ _. is_some c.get.result) ∙ c.is_none.ensures ∙ ap not c.if-is_none.true)))
