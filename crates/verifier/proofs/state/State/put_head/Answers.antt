use Rattle.std.proofs.Common.{refl, ◌∙◌}
use Rattle.std.proofs.lemmas.Result.{on_ok_weaker}
use Rattle.verifier.proofs.RecordLemmas.{four_behind}
use Rattle.verifier.proofs.state.State.put_head.Goals as goal

pub returns : goal.returns
returns c =
    let id = c.in_ok-put.ensures c.args.whole.now refl in
    let u = c.in_ok-put-2.ensures _ id in
    let view = c.in_ok-put-3.ensures _ u in
    rw (← c.self.view_is) (on_ok_weaker c.put-4.result (λ put. put _ view ∙ four_behind c.args.whole.now _ _ _ _) c.put-4.ensures)
