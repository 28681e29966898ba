use Rattle.std.proofs.Common.{ap, ◌∙◌}
use Rattle.std.specs.Int.{w64, from_be_bytes}
use Rattle.links.specs.Message.{said_number}
use Rattle.links.proofs.message.number_of.Goals as goal

pub returns : goal.returns
unfolding said_number
returns c = c.from_be_bytes.ensures ∙ ap (from_be_bytes w64) c.in-Some.ensures.cases.0
