use Rattle.std.proofs.Common.{take, ap, ◌∙◌}
use Rattle.std.specs.Int.{w32, from_be_bytes}
use Rattle.links.specs.declared.message.TheConstants.{SIZE_BYTES}
use Rattle.links.specs.Message.{said_size}
use Rattle.links.proofs.message.size_of.Goals as goal

pub returns-clause-said : goal.returns-clause-said
unfolding said_size
returns-clause-said c = c.from_be_bytes.ensures ∙ ap (from_be_bytes w32) (c.in-Some.ensures.cases.0 ∙ ap (λ xs. take SIZE_BYTES xs) c.split_at.ensures.back)
