use Rattle.std.proofs.Common.{ap, ◌∙◌}
use Rattle.std.specs.Int.{w32, from_be_bytes}
use Rattle.seals.specs.Frame.{said_length}
use Rattle.seals.proofs.opener.length_of.Goals as goal

pub returns-clause-said : goal.returns-clause-said
unfolding said_length
returns-clause-said c = c.from_be_bytes.ensures ∙ ap (from_be_bytes w32) c.in-Some.ensures.cases.0
