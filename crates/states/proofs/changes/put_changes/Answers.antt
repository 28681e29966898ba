use Rattle.std.proofs.Common.{arith, ap}
use Rattle.pages.specs.Page.{page_items}
use Rattle.pages.specs.Others.{has_page}
use Rattle.states.specs.StateRecord.{flagged_page, flagged_text}
use Rattle.states.proofs.PageTextLemmas.{put_next, put_all}
use Rattle.states.proofs.changes.put_changes.Goals as goal

pub loop-number-preserved : goal.loop-number-preserved
loop-number-preserved g c =
    let after = c.args.after.now in
    let n = c.loop-number.number in
    put_next g.S.Sink.holds (λ p. flagged_page after.layout (has_page c.args.changed.now p) (page_items after.items p)) n c.args.sink.now c.loop-number.sink c.put_change.new.sink (flagged_page after.layout c.has.result (page_items after.items n))
    c.loop-number.invariant (ap (λ b. flagged_page after.layout b (page_items after.items n)) c.has.ensures) c.in_ok-put_change.ensures

pub returns : goal.returns
unfolding flagged_text
returns g c =
    let after = c.args.after.now in
    put_all g.S.Sink.holds (λ p. flagged_page after.layout (has_page c.args.changed.now p) (page_items after.items p)) c.loop-number.number c.args.sink.now c.loop-number.sink c.loop-number.invariant (omega (arith, c.loop-number-test.false))
