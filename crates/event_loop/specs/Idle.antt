-- Which connections nothing happens on.
use Rattle.std.specs.Prelude.{◌≡◌, ◌≢◌, ◌≤◌, ℕ, ◌-◌, List, Option, Some, None, slice_get, IfSome}
use Rattle.event_loop.specs.declared.idle.Active.{Active}
use Rattle.event_loop.specs.declared.leavers.Leaver.{Leaver}

pub record IdleView : Type 0 where
  -- how long nothing may happen on a connection. 0: for ever
  pub limit : ℕ
  -- for each key the connection that is there, and when something happened on it last
  pub active : List (Option Active)

-- the connection of this key has this number, and something happened on it last at this moment
abbrev pub IsThereSince : IdleView → ℕ → ℕ → ℕ → Type 0
IsThereSince i key number micros = slice_get i.active key ≡ Some (Some (record { number = number; micros = micros }))

-- nothing happened on the connection for as long as is allowed, or longer
pub record HasBeenIdle (i : IdleView) (one : Leaver) (micros : ℕ) : Type 0 where
  pub last : ℕ
  pub there : IsThereSince i one.key one.number last
  pub long : i.limit ≤ micros - last

-- something happened on the connection of this key, if one is there, and on no other one
pub record IsNoted (old : IdleView) (key micros : ℕ) (new : IdleView) : Type 0 where
  pub noted : (number last : ℕ) → IsThereSince old key number last → IsThereSince new key number micros
  pub others : (other : ℕ) → other ≢ key → slice_get new.active other ≡ slice_get old.active other
