use Rattle.member.proofs.Forms.{HasNoOtherBelow}
use Rattle.member.proofs.process_form.has_no_other.Given as goal

abbrev pub invariant-loop-place : goal.invariant-loop-place
invariant-loop-place g l = HasNoOtherBelow l.place l.fn.id l.fn.keepers
