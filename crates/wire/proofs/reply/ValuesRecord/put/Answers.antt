use Rattle.std.proofs.Common.{◌≡◌}
use Rattle.wire.specs.Field.{list_text}
use Rattle.wire.specs.Reply.{found_text, values_text}
use Rattle.wire.specs.ReplyLaws.{values_text-is}
use Rattle.wire.proofs.reply.ValuesRecord.put.Goals as goal

pub returns : goal.returns
returns g c =
    let text : values_text c.args.self.now ≡ list_text found_text c.args.self.now = values_text-is c.args.self.now c.as_slice.ensures.limits.few in
    rw (text, ← c.as_slice.ensures.items) c.put_list.ensures
