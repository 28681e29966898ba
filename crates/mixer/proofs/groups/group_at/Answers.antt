use Rattle.std.proofs.Common.{◌≡◌, ◌++◌, ◌∷◌, [], ◌∙◌, ap, cond, get_or, nat_eq, arith}
use Rattle.mixer.specs.Groups.{task_of}
use Rattle.mixer.proofs.GroupLemmas.{members_more, equal_is, other_is}
use Rattle.mixer.proofs.groups.group_at.Goals as goal
use Rattle.mixer.proofs.groups.group_at.Goals.{then-numbers-i+in_ok-task_of+in_ok-push, else-numbers-i}

pub loop-i-preserved : goal.loop-i-preserved
loop-i-preserved c =
    let rs = c.args.requests.now in
    let ns = c.args.numbers.now in
    let i = c.loop-i.i in
    let d = c.index-requests-i.result in
    let next : c.if-numbers-i.tasks.items ≡ cond (nat_eq (get_or ns i 0) c.args.number) (c.loop-i.tasks.items ++ task_of i (get_or rs i d) ∷ []) c.loop-i.tasks.items =
    elim c.if-numbers-i.branch [
      | then-numbers-i+in_ok-task_of+in_ok-push w ↦ rw (equal_is _ _ w.if-numbers-i.true) (ap (λ v. v.items) w.tasks-is ∙ w.in_ok-push.ensures.items ∙ ap (λ t. c.loop-i.tasks.items ++ t ∷ []) (w.in_ok-task_of.ensures ∙ ap (task_of i) c.index-requests-i.is))
      | else-numbers-i w ↦ rw (other_is _ _ w.if-numbers-i.false) (ap (λ v. v.items) w.tasks-is)
    ] in
    members_more rs ns c.args.number i d c.loop-i.tasks.items c.if-numbers-i.tasks.items _ (omega arith) (omega arith) c.loop-i.invariant next
