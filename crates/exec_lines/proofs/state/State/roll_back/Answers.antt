use Rattle.std.proofs.Common.{◌≡◌, ◌++◌, ap, ◌∙◌}
use Rattle.exec_lines.specs.Lines.{needs, rolled_back}
use Rattle.exec_lines.proofs.state.State.roll_back.Goals as goal

pub returns : goal.returns
returns c =
    let state = c.turn_back.ensures in
    let letters : c.saved.result.letters.items ≡ needs c.args.u c.args.id (rolled_back c.args.self.now c.args.decree.now) =
    ap (λ ls. ls.items) c.saved.ensures.letters ∙ c.in_ok-needs.ensures ∙ ap (λ xs. xs ++ needs c.args.u c.args.id c.turn_back.new.self) c.new-letters.ensures.items ∙ ap (needs c.args.u c.args.id) state in
    λ i. record { state = state i; saves = c.saved.ensures.saves i; letters = letters i }
