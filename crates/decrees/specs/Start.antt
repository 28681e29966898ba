-- A log that begins after a start, and what could be one.
use Rattle.std.specs.Prelude.{ℕ, ◌+◌, ◌-◌, ◌==◌, ◌&&◌, ◌||◌, Bool, not, List, Option, None, slice_get, fold, replicate, nat_le, if◌then◌else◌}
use Rattle.std.specs.Str.{bytes_eq}
use Rattle.decrees.specs.declared.decree.Decree.{Decree}
use Rattle.decrees.specs.declared.standing.Standing.{Standing}
use Rattle.decrees.specs.Standing.{first_standing, standing_after}
use Rattle.decrees.specs.declared.start.Start.{Start}

abbrev pub first_start : Start
first_start = record { place = 0; standing = first_standing }

-- what these decrees stand for, if that stood before them
abbrev pub stands_from : Standing → List Decree → Standing
stands_from s decrees = fold standing_after s decrees

-- the decree of a place, in a list that begins after this one
abbrev pub decree_after : ℕ → List Decree → ℕ → Option Decree
decree_after start decrees place = if nat_le place start then None else slice_get decrees (place - (start + 1))

-- no Commit so far, and so no token
abbrev pub has_no_token : Standing → Bool
has_no_token s = not (s.n == 0) || bytes_eq s.token.0 (replicate 32 0)

-- no Rollback so far, and so the first epoch is as it began
abbrev pub began_first : Standing → Bool
began_first s = not (s.epoch == 1) || (s.start == 1)

-- this could stand after so many decrees
abbrev pub could_stand : ℕ → Standing → Bool
could_stand place s =
    ((s.n + s.epoch) == (place + 1)) && (nat_le 1 s.epoch && (nat_le 1 s.start && (nat_le s.start (s.n + 1) && (has_no_token s && began_first s))))
