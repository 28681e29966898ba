use Rattle.std.proofs.Common.{◌≡◌, ap, ◌∙◌}
use Rattle.transfer.specs.Need.{need_of}
use Rattle.exec_lines.specs.State.{ExecutorState}
use Rattle.exec_lines.proofs.state.State.all_needs.Goals as goal

pub returns : goal.returns
returns c =
    let is : c.in_ok-need.need ≡ need_of c.args.self.now.chain.have = c.in_ok-need.ensures ∙ ap need_of (c.committed.ensures ∙ ap (λ (s : ExecutorState). s.chain.have) c.self.view_is) in
    rw (← is) c.need_to_others.ensures
