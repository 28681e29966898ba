use Rattle.std.proofs.Common.{◌≡◌, ◌+◌, take, sym, ap, ◌∙◌, subst}
use mathlib.Core.Logic.{∥∥₁_map}
use Rattle.shelf.specs.Rows.{change_row}
use Rattle.shelf.specs.WaitingView.{IsLog}
use Rattle.shelf.proofs.OpenLemmas.{log_more}
use Rattle.shelf.proofs.changes.changes_in.Goals as goal

pub loop-index-preserved : goal.loop-index-preserved
loop-index-preserved c =
    ∥∥₁_map c.loop-index.invariant (λ h.
    subst (λ all. IsLog c.args.first (take (c.loop-index.index + 1) c.args.rows.now) all) (sym c.in_ok-append.ensures.items)
    (log_more c.args.first c.loop-index.index c.args.rows.now c.loop-index.all.items c.in_ok-changes.changes.items c.index-rows-index.result c.loop-index-test.true
    (sym c.index-rows-index.is ∙ (c.in_ok-changes.ensures ∙ ap (λ n. change_row n c.in_ok-changes.changes.items) c.in_ok-number.ensures)) h))
