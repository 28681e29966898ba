use Rattle.std.specs.Prelude.{flat_map}
use Rattle.std.specs.List.{range_with_len}
use Rattle.wire.specs.Record.{Puts}
use Rattle.pages.specs.Page.{page_items}
use Rattle.pages.specs.Layout.{text_in}
use Rattle.states.proofs.page_texts.put_pages.Given as goal

-- the pages so far were written
abbrev pub invariant-loop-number : goal.invariant-loop-number
invariant-loop-number g l = Puts g.S.Sink.holds (flat_map (λ p. text_in l.pages.layout (page_items l.pages.items p)) (range_with_len 0 l.number)) l.fn.sink l.sink
