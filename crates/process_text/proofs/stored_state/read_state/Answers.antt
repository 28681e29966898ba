use Rattle.std.proofs.Common.{rules, ◌≡◌, []}
use Rattle.std.proofs.lemmas.Result.{err_from_is_err_and}
use Rattle.states.specs.State.{IsState}
use Rattle.states.specs.StateRecord.{state_text}
use Rattle.wire.proofs.Values.{none_whole, left_over}
use Rattle.process_text.proofs.stored_state.read_state.Goals as goal

pub returns-in_err-state : goal.returns-in_err-state
returns-in_err-state c =
    let p = err_from_is_err_and c.from_residual.result c.from_residual.ensures.1 in
    rw (p.1, p.2) (none_whole IsState state_text c.args.bytes.now c.in_err-state.field-0.0 c.in_err-state.ensures)

pub returns-else-is_empty : goal.returns-else-is_empty
returns-else-is_empty c =
    let more : c.in_ok-state.rest.now ≡ [] → ⊥ = search rules in
    λ v f same. left_over c.states_are_told_apart.ensures.whole c.args.bytes.now c.in_ok-state.state c.in_ok-state.rest.now c.in_ok-state.ensures.1 more v same
