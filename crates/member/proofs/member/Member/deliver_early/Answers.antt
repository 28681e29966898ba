use Rattle.std.proofs.Common.{refl}
use Rattle.member.proofs.Works.{none_worked, none_leave}
use Rattle.member.proofs.member.Member.deliver_early.Goals as goal

pub returns-then-is_decree_next-clause-worked : goal.returns-then-is_decree_next-clause-worked
returns-then-is_decree_next-clause-worked c = none_worked c.args.moment _ _ _ _ refl refl

pub returns-then-is_decree_next-clause-leaving : goal.returns-then-is_decree_next-clause-leaving
returns-then-is_decree_next-clause-leaving c = none_leave _ _ refl
