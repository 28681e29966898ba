use Rattle.std.proofs.Common.{ℕ, List, subst}
use Rattle.std.specs.Prelude.{OnOk}
use Rattle.wire.specs.Record.{Puts}
use Rattle.pages.specs.Layout.{text_in}
use Rattle.pages.proofs.snapshot.Snapshot.put_text.Goals as goal

pub returns : goal.returns
returns g c =
    subst (λ (text : List ℕ). OnOk c.put_text.result (Puts g.S.Sink.holds text c.args.sink.now c.put_text.new.sink))
    (λ i. text_in (c.page.ensures.layout i) (c.page.ensures.items i))
    c.put_text.ensures
