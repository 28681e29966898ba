use Rattle.std.proofs.Common.{ℕ, List, sym, subst, ◌∙◌, arith}
use Rattle.std.specs.Prelude.{OnOk}
use Rattle.wire.specs.Record.{Puts}
use Rattle.wire.proofs.Items.{lasting_text, passing_text}
use Rattle.wire.proofs.item.put_fields.Goals as goal

pub returns-in-None : goal.returns-in-None
returns-in-None g c =
    let text = lasting_text c.args.flags c.args.unique c.args.len c.args.due c.in-None.is c.ranges.flags.fits c.ranges.unique.fits c.ranges.len.fits in
    subst (λ (t : List ℕ). OnOk c.put.result (Puts g.S.Sink.holds t c.args.sink.now c.put.new.self)) (c.lasting_fields.ensures ∙ sym text) c.put.ensures

pub returns-in-Some : goal.returns-in-Some
returns-in-Some g c =
    let text = passing_text c.args.flags c.in-Some.due c.args.unique c.args.len c.args.due c.in-Some.is c.ranges.flags.fits (omega arith) c.ranges.unique.fits c.ranges.len.fits in
    subst (λ (t : List ℕ). OnOk c.put-in-Some.result (Puts g.S.Sink.holds t c.args.sink.now c.put-in-Some.new.self)) (c.passing_fields.ensures ∙ sym text) c.put-in-Some.ensures
