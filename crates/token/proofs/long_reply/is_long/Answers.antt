use Rattle.std.proofs.Common.{[], arith, length, ◌∙◌}
use Rattle.wire.specs.Reply.{reply_record}
use Rattle.token.proofs.ToldLemmas.{above_limit}
use Rattle.token.proofs.long_reply.is_long.Goals as goal

pub returns : goal.returns
returns c = above_limit 64 c.count.result 18446744073709551615 (length (reply_record c.args.reply.now)) (omega arith) (c.count.ensures ∙ c.in-Ok.ensures [] c.new-counter.ensures)
