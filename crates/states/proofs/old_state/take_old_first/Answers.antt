use Rattle.std.proofs.Common.{◌≡◌, ◌++◌, ap, ◌∙◌}
use Rattle.states.specs.OldRecord.{old_state_text}
use Rattle.states.proofs.RecordLemmas.{stripped, not_stripped}
use Rattle.states.proofs.old_state.take_old_first.Goals as goal

pub returns-in-Some : goal.returns-in-Some
returns-in-Some c =
    let text : c.as_slice.result.now ≡ old_state_text c.in_ok-first.first = c.as_slice.ensures.value ∙ c.in_ok-text.ensures in
    let found = c.in-Some.ensures.cases in
    (c.in_ok-first.ensures, stripped c.args.bytes.now c.as_slice.result.now c.in-Some.rest.now found.0 found.1 ∙ ap (λ t. t ++ c.in-Some.rest.now) text)

pub returns : goal.returns
returns c =
    let text : c.as_slice.result.now ≡ old_state_text c.in_ok-first.first = c.as_slice.ensures.value ∙ c.in_ok-text.ensures in
    not_stripped old_state_text c.args.bytes.now c.as_slice.result.now c.in-None.ensures.cases c.in_ok-first.first text c.in_ok-first.ensures
