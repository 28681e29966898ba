-- How large a world is.
use Rattle.std.specs.Prelude.{ℕ, ◌<◌, ◌≤◌}
use Rattle.events.specs.declared.config.TheConstants.{MOST_CLIENTS}

pub record ConfigView : Type 0 where
  -- how many of 2u + 1 executors, and of as many verifiers, may fail
  pub u : ℕ
  pub clients : ℕ

pub record IsConfig (c : ConfigView) : Type 0 where
  pub few : c.u < 4
  pub some_clients : 1 ≤ c.clients
  pub not_too_many : c.clients ≤ MOST_CLIENTS
