use Rattle.std.proofs.Common.{◌≡◌, []}
use Rattle.wire.proofs.record.write.Goals as goal

pub returns-clause-ok : goal.returns-clause-ok
returns-clause-ok g c =
    let e : c.put.new.sink.items ≡ g.T.Record.encoding c.args.value.now = c.in_ok-put.ensures [] c.new-text.ensures.items in
    rw (← e, ← c.as_slice.ensures.value) c.in_ok-extend_from_slice.ensures.items
