-- What a list of decrees stands for.
use Rattle.std.specs.Prelude.{ℕ, ◌+◌, ◌-◌, ◌==◌, ◌&&◌, Bool, true, List, [], ◌∷◌, slice_get, fold, replicate, Option, None, if◌then◌else◌}
use Rattle.decrees.specs.declared.decree.Decree.{Decree}
use Rattle.decrees.specs.declared.decree.Decree.TheVariants.{Commit, Rollback}
use Rattle.decrees.specs.declared.standing.Standing.{Standing}

-- before any decree
abbrev pub first_standing : Standing
first_standing = record { n = 0; token = record { 0 = replicate 32 0 }; epoch = 1; start = 1 }

-- one decree more
abbrev pub standing_after : Standing → Decree → Standing
standing_after s (Commit n token) = record { n = n; token = token; epoch = s.epoch; start = s.start }
standing_after s Rollback = record { n = s.n; token = s.token; epoch = s.epoch + 1; start = s.n + 1 }

abbrev pub standing : List Decree → Standing
standing log = fold standing_after first_standing log

-- the decree may come next: a Commit is of the number after the standing one
abbrev pub may_follow : Standing → Decree → Bool
may_follow s (Commit n token) = n == (s.n + 1)
may_follow s Rollback = true

-- each decree could come next where it stands
abbrev pub is_log_from : Standing → List Decree → Bool
is_log_from s [] = true
is_log_from s (d ∷ ds) = may_follow s d && is_log_from (standing_after s d) ds

abbrev pub is_log : List Decree → Bool
is_log log = is_log_from first_standing log

-- the decree of a place, from 1
abbrev pub decree_at : List Decree → ℕ → Option Decree
decree_at log place = if place == 0 then None else slice_get log (place - 1)
