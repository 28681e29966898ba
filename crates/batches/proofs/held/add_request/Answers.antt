use Rattle.std.proofs.Common.{sym, ◌∙◌}
use Rattle.batches.proofs.HeldLemmas.{added_later}
use Rattle.batches.proofs.held.add_request.Goals as goal

pub returns-in_ok-set_last-clause-ok : goal.returns-in_ok-set_last-clause-ok
returns-in_ok-set_last-clause-ok c = c.in_ok-set_last.ensures.ok ∙ added_later c.args.request c.args.waiting.now.entries c.requires (sym c.if-comes_later.ensures)
