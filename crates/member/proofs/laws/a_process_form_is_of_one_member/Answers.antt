use Rattle.member.proofs.Forms.{one_member}
use Rattle.member.proofs.laws.a_process_form_is_of_one_member.Goals as goal

pub returns : goal.returns
returns c = one_member
