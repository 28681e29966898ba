use Rattle.std.proofs.lemmas.Result.{IfOk-weaker}
use Rattle.pages.proofs.DifferLemmas.{moved_pages}
use Rattle.pages.proofs.snapshot.Snapshot.differences.Goals as goal

pub returns : goal.returns
returns c =
    IfOk-weaker c.differences.result _ _ (λ found x.
    moved_pages c.args.front _ _ _ _ _ _ _ _ found.0.items found.1.items c.page.ensures.layout c.page.ensures.items c.page-2.ensures.layout c.page-2.ensures.items x) c.differences.ensures
