-- What contracts see of a log, and what always holds of one.
use Rattle.std.specs.Prelude.{◌≡◌, ℕ, ◌+◌, ◌-◌, ◌^◌, ◌<◌, ◌≤◌, IsTrue, List, length, take, drop}
use Rattle.decrees.specs.declared.decree.Decree.{Decree}
use Rattle.decrees.specs.declared.standing.Standing.{Standing}
use Rattle.decrees.specs.declared.start.Start.{Start}
use Rattle.decrees.specs.Standing.{is_log_from}
use Rattle.decrees.specs.Start.{stands_from, could_stand}

-- where it begins, and the decrees after that
pub record LogView : Type 0 where
  pub start : Start
  pub decrees : List Decree

-- how many decrees are known, with those that are forgotten
abbrev pub known_in : LogView → ℕ
known_in log = log.start.place + length log.decrees

-- what they stand for
abbrev pub standing_in : LogView → Standing
standing_in log = stands_from log.start.standing log.decrees

-- the decrees up to this place are forgotten
abbrev pub trimmed_to : LogView → ℕ → LogView
trimmed_to log place = record {
  start = record { place = place; standing = stands_from log.start.standing (take (place - log.start.place) log.decrees) };
  decrees = drop (place - log.start.place) log.decrees;
}

-- what is kept beside the decrees is what they stand for, and its numbers count them
pub record IsStandingOf (start : Start) (decrees : List Decree) (kept : Standing) : Type 0 where
  pub is_standing : kept ≡ stands_from start.standing decrees
  pub begun : 1 ≤ kept.epoch
  pub counted : kept.n + kept.epoch ≡ (start.place + length decrees) + 1
  pub from_next : kept.start ≤ kept.n + 1

pub record IsKept (start : Start) (decrees : List Decree) (kept : Standing) : Type 0 where
  pub begins : IsTrue (could_stand start.place start.standing)
  pub is_log : IsTrue (is_log_from start.standing decrees)
  pub stands : IsStandingOf start decrees kept
  pub few : length decrees < 2 ^ 32
  -- the place after what is known has a number
  pub placed : (start.place + length decrees) + 1 < 2 ^ 64
