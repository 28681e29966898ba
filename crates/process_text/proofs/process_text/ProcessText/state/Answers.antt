use Rattle.std.proofs.Common.{◌≡◌, ◌++◌, ap, ◌∙◌}
use Rattle.states.proofs.RecordLemmas.{stripped}
use Rattle.process_text.specs.StateOf.{front_text}
use Rattle.process_text.proofs.TextLemmas.{reads_of, no_state_of}
use Rattle.process_text.proofs.process_text.ProcessText.state.Goals as goal

pub returns-in-Some : goal.returns-in-Some
returns-in-Some c =
    let front : c.as_slice.result.now ≡ front_text c.args.self.now = c.as_slice.ensures.value ∙ c.in_ok-front.ensures in
    let found = c.in-Some.ensures.cases in
    reads_of c.args.self.now c.args.bytes.now c.in-Some.field-0.now (stripped c.args.bytes.now c.as_slice.result.now c.in-Some.field-0.now found.0 found.1 ∙ ap (λ t. t ++ c.in-Some.field-0.now) front) c.read_state.result c.read_state.ensures

pub returns : goal.returns
returns c = no_state_of c.args.self.now c.args.bytes.now c.as_slice.result.now (c.as_slice.ensures.value ∙ c.in_ok-front.ensures) c.in-None.ensures.cases
