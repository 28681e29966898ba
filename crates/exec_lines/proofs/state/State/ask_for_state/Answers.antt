use Rattle.std.proofs.Common.{◌≡◌, ◌++◌, ap, ◌∙◌}
use Rattle.exec_lines.specs.Lines.{needs, stood_without}
use Rattle.exec_lines.proofs.state.State.ask_for_state.Goals as goal

pub returns : goal.returns
returns c =
    let state = c.begin_again.ensures in
    let letters : c.saved.result.letters.items ≡ needs c.args.u c.args.id (stood_without c.args.self.now c.args.place c.args.standing) =
    ap (λ ls. ls.items) c.saved.ensures.letters ∙ c.in_ok-needs.ensures ∙ ap (λ xs. xs ++ needs c.args.u c.args.id c.begin_again.new.self) c.new-letters.ensures.items ∙ ap (needs c.args.u c.args.id) state in
    λ i. record { state = state i; saves = c.saved.ensures.saves i; letters = letters i }
