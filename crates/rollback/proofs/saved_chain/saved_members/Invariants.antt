use Rattle.std.proofs.Common.{◌≡◌, take}
use Rattle.std.specs.Prelude.{map}
use Rattle.executor.specs.MemberRecord.{member_text}
use Rattle.rollback.proofs.saved_chain.saved_members.Given as goal

abbrev pub invariant-loop-member : goal.invariant-loop-member
invariant-loop-member l = l.saved.items ≡ map member_text (take l.member-index l.members)
