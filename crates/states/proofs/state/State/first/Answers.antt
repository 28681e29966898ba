use Rattle.std.proofs.Common.{ap, ◌∙◌}
use Rattle.pages.specs.Page.{Laid}
use Rattle.states.proofs.StateLemmas.{first_is_state}
use Rattle.states.proofs.state.State.first.Goals as goal

pub invariant_of-result : goal.invariant_of-result
invariant_of-result c = (
  record {
    state = rw (ap (λ (s : Laid). s.items) c.in_ok-pages.ensures, c.in_ok-new-2.ensures, c.new-sessions.ensures ∙ c.in_ok-new.ensures) first_is_state;
    sessions = c.of_sessions-digested.ensures.digested;
  },
  ap (λ (s : Laid). s.layout) c.in_ok-pages.ensures,
)
