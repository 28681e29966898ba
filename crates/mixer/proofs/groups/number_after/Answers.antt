use Rattle.std.proofs.Common.{◌≡◌, ◌≤◌, ◌<◌, ◌+◌, ◌∙◌, cond, max, get_or, length, sym, arith}
use Rattle.mixer.specs.Groups.{conflicts}
use Rattle.mixer.proofs.GroupLemmas.{number_more, bounded, ord_max-nat_cmp}
use Rattle.mixer.proofs.groups.number_after.Goals as goal
use Rattle.mixer.proofs.groups.number_after.Goals.{then-conflict, else-conflict}

pub loop-i-preserved : goal.loop-i-preserved
loop-i-preserved c =
    let i = c.loop-i.i in
    let small : get_or c.args.numbers.now i 0 < length c.args.numbers.now = c.requires.small i 0 (omega arith) in
    let next : c.if-conflict.most ≡ cond (conflicts (get_or c.args.earlier.now i c.index-earlier-i.result).command c.args.command.now) (max c.loop-i.most (get_or c.args.numbers.now i 0 + 1)) c.loop-i.most =
    elim c.if-conflict.branch [
      | then-conflict w ↦ rw (sym c.conflict.ensures ∙ w.if-conflict.true) (w.most-is ∙ w.max-most.ensures ∙ ord_max-nat_cmp _ _)
      | else-conflict w ↦ rw (sym c.conflict.ensures ∙ w.if-conflict.false) w.most-is
    ] in
    let bound : c.if-conflict.most ≤ length c.args.numbers.now =
    rw next (bounded _ c.loop-i.most _ _ c.loop-i.invariant.1 small) in
    (number_more c.args.earlier.now c.args.numbers.now c.args.command.now i c.index-earlier-i.result c.loop-i.most c.if-conflict.most _ (omega arith) (omega arith) c.loop-i.invariant.0 next, bound)
