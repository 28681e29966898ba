use Rattle.std.proofs.Common.{subst}
use Rattle.member.specs.Member.{MemberView}
use Rattle.member.specs.Passing.{IsFirstTo}
use Rattle.member.proofs.Steps.{first_here}
use Rattle.member.proofs.member.Member.is_first_here.Goals as goal

pub returns-in-Some : goal.returns-in-Some
returns-in-Some c = λ is.
    first_here c.args.self.now c.in-Some.to (subst (λ (v : MemberView). IsFirstTo v.nodes.mail c.in-Some.to) c.self.view_is c.in-Some.ensures) (c.is_here.ensures.yes is)
