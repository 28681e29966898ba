use Rattle.std.proofs.Common.{◌≡◌, []}
use Rattle.states.specs.StateRecord.{state_text}
use Rattle.executor.proofs.tentative.Committed.write.Goals as goal

pub returns-clause-ok : goal.returns-clause-ok
returns-clause-ok c =
    let e : c.put.new.sink.items ≡ state_text c.args.self.now.state = c.in_ok-put.ensures [] c.new-text.ensures.items in
    rw (← e, ← c.as_slice.ensures.value) c.in_ok-extend_from_slice.ensures.items
