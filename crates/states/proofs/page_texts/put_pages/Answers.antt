use Rattle.std.proofs.Common.{arith, refl}
use Rattle.pages.specs.Page.{page_items}
use Rattle.pages.specs.Layout.{text_in}
use Rattle.states.specs.StateRecord.{pages_text}
use Rattle.states.proofs.PageTextLemmas.{put_next, put_all}
use Rattle.states.proofs.page_texts.put_pages.Goals as goal

pub loop-number-preserved : goal.loop-number-preserved
loop-number-preserved g c =
    let pages = c.args.pages.now in
    put_next g.S.Sink.holds (λ p. text_in pages.layout (page_items pages.items p)) c.loop-number.number c.args.sink.now c.loop-number.sink c.put_text.new.sink (text_in pages.layout (page_items pages.items c.loop-number.number))
    c.loop-number.invariant refl c.in_ok-put_text.ensures

pub returns : goal.returns
unfolding pages_text
returns g c =
    let pages = c.args.pages.now in
    put_all g.S.Sink.holds (λ p. text_in pages.layout (page_items pages.items p)) c.loop-number.number c.args.sink.now c.loop-number.sink c.loop-number.invariant (omega (arith, c.loop-number-test.false))
