use Rattle.std.proofs.Common.{ap, ◌∙◌}
use Rattle.std.specs.FinMap.{from_sorted}
use Rattle.base.proofs.MapLemmas.{empty_list}
use Rattle.sessions.proofs.sessions.Sessions.new.Goals as goal

pub returns : goal.returns
returns c = ap from_sorted (c.in_ok-new.ensures.ok ∙ c.new.ensures) ∙ empty_list
