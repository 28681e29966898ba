use Rattle.std.proofs.Common.{◌≡◌, []}
use Rattle.executor.specs.MemberRecord.{member_text}
use Rattle.executor.proofs.tentative.Tentative.write.Goals as goal

pub returns-clause-ok : goal.returns-clause-ok
returns-clause-ok c =
    let e : c.put.new.sink.items ≡ member_text c.args.self.now = c.in_ok-put.ensures [] c.new-text.ensures.items in
    rw (← e, ← c.as_slice.ensures.value) c.in_ok-extend_from_slice.ensures.items
