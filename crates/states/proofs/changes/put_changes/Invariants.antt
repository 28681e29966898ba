use Rattle.std.specs.Prelude.{flat_map}
use Rattle.std.specs.List.{range_with_len}
use Rattle.wire.specs.Record.{Puts}
use Rattle.pages.specs.Page.{page_items}
use Rattle.pages.specs.Others.{has_page}
use Rattle.states.specs.StateRecord.{flagged_page}
use Rattle.states.proofs.changes.put_changes.Given as goal

-- the pages so far were written
abbrev pub invariant-loop-number : goal.invariant-loop-number
invariant-loop-number g l = Puts g.S.Sink.holds (flat_map (λ p. flagged_page l.after.layout (has_page l.changed p) (page_items l.after.items p)) (range_with_len 0 l.number)) l.fn.sink l.sink
