-- A client's part of the server, as contracts see it.
use Rattle.std.specs.Prelude.{ℕ, Bool}
use Rattle.client.specs.declared.talk.Talk.{Talk}

pub record ClientView : Type 0 where
  -- its number
  pub client : ℕ
  -- how many of 2u + 1 executors may fail
  pub u : ℕ
  pub talk : Talk
  -- whether it was not stopped
  pub up : Bool
