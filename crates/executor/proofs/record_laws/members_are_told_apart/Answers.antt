use Rattle.executor.proofs.MemberLemmas.{one_member, whole_member}
use Rattle.executor.proofs.record_laws.members_are_told_apart.Goals as goal

pub returns-clause-one : goal.returns-clause-one
returns-clause-one c = one_member

pub returns-clause-whole : goal.returns-clause-whole
returns-clause-whole c = whole_member
