use Rattle.executor.proofs.MemberLemmas.{base_is_told}
use Rattle.executor.proofs.record_laws.members_tell_their_base.Goals as goal

pub returns : goal.returns
returns c = base_is_told
