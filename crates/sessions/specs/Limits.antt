-- The limits of what is kept of a client.
use Rattle.std.specs.Prelude.{ℕ, ◌≤◌}
use Rattle.sessions.specs.declared.sessions.LastReply.{LastReply}

pub record KeptFits (kept : LastReply) : Type 0 where
  pub number : 1 ≤ kept.number

-- clients, and the numbers of their requests, begin at 1
pub record SessionFits (session : ℕ × LastReply) : Type 0 where
  pub client : 1 ≤ session.0
  pub kept : KeptFits session.1
