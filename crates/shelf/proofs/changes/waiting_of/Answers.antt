use Rattle.std.proofs.Common.{sym}
use mathlib.Core.Logic.{∥∥₁_map}
use Rattle.shelf.specs.InMemory.{waiting_view}
use Rattle.shelf.proofs.OpenLemmas.{waiting_read}
use Rattle.shelf.proofs.changes.waiting_of.Goals as goal

pub returns : goal.returns
returns c = λ db is.
    ∥∥₁_map c.in_ok-changes.ensures (λ h.
    waiting_read c.in_ok-first.first c.in_ok-next.next c.args.rows.now c.in_ok-changes.changes.items (waiting_view c.of_file-waiting.result) (waiting_view c.rotate.new.self)
    c.of_file-waiting.ensures c.rotate.ensures (sym c.in_ok-next.ensures) h db is)
