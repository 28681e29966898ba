use Rattle.std.proofs.Common.{◌≡◌, length, sym, ap, ◌∙◌, eqb-true}
use Rattle.std.specs.FinMap.{empty_of_len, len-entries}
use Rattle.states.specs.State.{StateView}
use Rattle.states.proofs.head.Head.first_state.Goals as goal

pub returns-then-is_empty-clause-sessions : goal.returns-then-is_empty-clause-sessions
returns-then-is_empty-clause-sessions c =
    let none : length c.entries.result.now ≡ 0 = eqb-true (length c.entries.result.now) 0 (sym c.is_empty.ensures ∙ c.if-is_empty.true) in
    ap (λ (s : StateView). s.sessions) c.in_ok-first.ensures
    ∙ sym (empty_of_len c.args.sessions.now (len-entries c.args.sessions.now ∙ ap length (sym c.entries.ensures.entries) ∙ none))
