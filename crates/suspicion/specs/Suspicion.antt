-- When a member suspects the leader. Times are in ticks.
use Rattle.std.specs.Prelude.{ℕ, ◌+◌, ◌-◌, ◌*◌, ◌^◌, ◌==◌, ◌&&◌, ◌||◌, Bool, false, min, max, nat_lt, nat_le, Option, None, Some, if◌then◌else◌}
use Rattle.suspicion.specs.declared.observed.Observed.{Observed}
use Rattle.suspicion.specs.declared.suspicion.Suspicion.{Suspicion}
use Rattle.suspicion.specs.declared.suspicion.TheConstants.{LEAST_PATIENCE, MOST_PATIENCE, WAITS, STALLED_TURN, AWAY_TURN, MOST_FACTOR, PERIOD}

-- nothing has waited yet
abbrev pub suspicion_from : ℕ → Suspicion
suspicion_from known = record { known = known; was_waiting = false; gap = 0; quiet = 0; factor = 1; longest = 0; earlier = 0; age = 0 }

-- the longest gap before a decree, in this period and the one before
abbrev pub longest_lately : Suspicion → ℕ
longest_lately s = max s.longest s.earlier

abbrev pub patience_of : Suspicion → ℕ
patience_of s = min (max (WAITS * longest_lately s) LEAST_PATIENCE * s.factor) MOST_PATIENCE

-- a count of ticks, in 32 bits
abbrev pub one_tick_more : ℕ → ℕ
one_tick_more ticks = min (ticks + 1) (2 ^ 32 - 1)

-- a tick passed: it counts if something waited before it
abbrev pub with_tick : Suspicion → Suspicion
with_tick s = if s.was_waiting then record s { gap = one_tick_more s.gap; quiet = one_tick_more s.quiet; age = one_tick_more s.age } else record s { gap = 0; quiet = 0 }

-- if a decree was obeyed, the wait begins anew, and the patience is not multiplied any more
abbrev pub with_decree : ℕ → Suspicion → Suspicion
with_decree known s = if s.known == known then s else record s { known = known; gap = 0; quiet = 0; factor = 1; longest = max s.longest s.gap }

-- if a period is over, another one begins
abbrev pub with_period : Suspicion → Suspicion
with_period s = if nat_le PERIOD s.age then record s { longest = 0; earlier = s.longest; age = 0 } else s

-- what it knows when this is observed at a tick
abbrev pub observed : Suspicion → Observed → Suspicion
observed s seen = record (with_period (with_decree seen.known (with_tick s))) { was_waiting = seen.is_waiting }

-- no decree has come for too long
abbrev pub is_stalled : Suspicion → Observed → Bool
is_stalled s seen = nat_lt (patience_of s + STALLED_TURN * seen.rank) s.quiet

abbrev pub is_longer : ℕ → Option ℕ → Bool
is_longer most None = false
is_longer most (Some ticks) = nat_lt most ticks

-- the leader's member is away for too long
abbrev pub is_away : Observed → Bool
is_away seen = is_longer (AWAY_TURN * seen.rank) seen.leader_away

-- it has suspected nobody since the last decree, or was patient since then
abbrev pub may_again : Suspicion → Bool
may_again s = (s.factor == 1) || nat_lt (patience_of s) s.quiet

abbrev pub is_leaderless : Suspicion → Observed → Bool
is_leaderless s seen = is_away seen && may_again s

-- enough others are heard, something waits here, and there is a reason
abbrev pub may_suspect : ℕ → Suspicion → Observed → Bool
may_suspect u s seen = (nat_le u seen.peers && seen.is_waiting) && (is_stalled s seen || is_leaderless s seen)

-- what it knows once it has suspected the leader
abbrev pub backed_off : Suspicion → Suspicion
backed_off s = record s { quiet = 0; factor = min (2 * s.factor) MOST_FACTOR }
