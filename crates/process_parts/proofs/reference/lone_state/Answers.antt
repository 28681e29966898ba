use Rattle.std.proofs.Common.{ℕ, List, ◌∙◌, Some, ap, sym}
use Rattle.exec_lines.specs.Record.{saved_text}
use Rattle.process_parts.proofs.reference.lone_state.Goals as goal

pub returns : goal.returns
returns c =
    let saved = c.in_ok-saved.saved.now in
    record {
      plain = record { u = saved.u; id = saved.id; known = saved.known; standing = saved.standing };
      text = sym c.in_ok-kept.ensures ∙ ap Some (c.in_ok-saved.ensures ∙ ap (λ (chain : List ℕ). saved_text saved.u saved.id saved.known saved.standing chain) c.in_ok-state.ensures);
    }
