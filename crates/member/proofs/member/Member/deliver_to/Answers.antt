use Rattle.std.proofs.Common.{refl}
use Rattle.member.proofs.Works.{none_worked}
use Rattle.member.proofs.member.Member.deliver_to.Goals as goal

pub returns-clause-worked : goal.returns-clause-worked
returns-clause-worked c = none_worked c.args.moment _ _ _ _ c.set_aside.ensures.shown refl
