use Rattle.std.proofs.Common.{arith}
use Rattle.std.proofs.lemmas.Result.{err_from_is_err_and}
use Rattle.pages.proofs.RecordLemmas.{none_tree}
use Rattle.pages.proofs.page.Page.take_tree.Goals as goal

pub returns-in_err-tree : goal.returns-in_err-tree
returns-in_err-tree c =
    let p = err_from_is_err_and c.from_residual.result c.from_residual.ensures.1 in
    rw (p.1, p.2) (none_tree c.args.bytes.now (λ i. omega (arith, c.type_inv.bytes i)) c.in_err-tree.field-0.0 c.in_err-tree.ensures)
