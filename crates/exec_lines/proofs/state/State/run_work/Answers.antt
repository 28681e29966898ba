use Rattle.std.proofs.Common.{List, ap, ◌∙◌}
use Rattle.decrees.specs.declared.node.Letter.{Letter}
use Rattle.exec_lines.specs.declared.body.Body.{Body}
use Rattle.exec_lines.specs.Lines.{completed}
use Rattle.exec_lines.proofs.state.State.run_work.Goals as goal

pub returns : goal.returns
returns g c =
    let letters = ap (λ (ls : List (Letter Body)). completed c.args.u c.args.id c.args.self.now ls c.in_ok-tentative.tentative) c.new.ensures.items in
    (c.in_ok-tentative.tentative, c.in_ok-tentative.ensures.made, c.in_ok-outcome.ensures ∙ letters)
