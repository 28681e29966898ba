use Rattle.std.proofs.Common.{ℕ, List, ◌∙◌, ap}
use Rattle.exec_lines.specs.Record.{saved_text}
use Rattle.process_parts.proofs.reference.plain_in.Goals as goal

pub returns : goal.returns
returns c =
    let saved = c.in_ok-saved.saved.now in
    let found = c.in_ok-_state.ensures in
    record {
      state = c.in_ok-_state._state.now;
      is_state = found.state;
      has_head = found.head;
      text = c.in_ok-saved.ensures ∙ ap (λ (chain : List ℕ). saved_text saved.u saved.id saved.known saved.standing chain) found.alone;
    }
