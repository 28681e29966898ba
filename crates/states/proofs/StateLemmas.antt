-- The first state is one.
use Rattle.std.proofs.Common.{◌≡◌, length, refl, sym, ◌∙◌, arith}
use Rattle.std.specs.Ordering.{nat_cmp}
use Rattle.std.specs.FinMap.{empty, entries, len-entries, len-empty}
use Rattle.sessions.specs.declared.sessions.LastReply.{LastReply}
use Rattle.sessions.specs.Fresh.{Replies}
use Rattle.states.specs.State.{IsState, initial_state}

abbrev no_sessions : Replies
no_sessions = empty

no_entries : length (entries no_sessions) ≡ 0
no_entries = sym (len-entries no_sessions) ∙ len-empty nat_cmp LastReply

pub first_is_state : IsState initial_state
first_is_state = record {
  sessions_fit = record { count = omega (arith, no_entries); each = λ k d lt. absurd (omega (arith, no_entries)) };
  form_fit = refl;
  few = omega arith;
  first = λ e. refl;
  token = λ l. absurd (omega arith);
}
