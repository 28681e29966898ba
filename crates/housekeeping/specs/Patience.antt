-- When a client that waits asks again, and when it suspects the leader.
use Rattle.std.specs.Prelude.{ℕ, Bool, ◌*◌, ◌-◌, ◌&&◌, not, min, nat_eq, nat_le, nat_lt, if◌then◌else◌}
use Rattle.decrees.specs.Count.{member_count}
use Rattle.housekeeping.specs.declared.patience.Patience.{Patience}
use Rattle.housekeeping.specs.declared.patience.Seen.{Seen}
use Rattle.housekeeping.specs.declared.patience.TheConstants.{STEPS_TO_AGAIN, MOST_PAUSE}
use Rattle.housekeeping.specs.declared.patience.Urge.{Urge}
use Rattle.housekeeping.specs.declared.patience.Urge.TheVariants.{Wait, Again, Suspect}

-- all that came of the request is done, and there was no reply
abbrev pub is_lost : Patience → Seen → Bool
is_lost p seen = not (nat_eq seen.rests p.since.rests)

-- the executors went on without it
abbrev pub is_left_behind : ℕ → Patience → Seen → Bool
is_left_behind u p seen = nat_le (STEPS_TO_AGAIN * member_count u) (seen.steps - p.since.steps)

abbrev pub is_suspicion : Patience → Seen → Bool
is_suspicion p seen = not (nat_lt 0 p.pause) && (is_lost p seen && p.has_asked_again)

abbrev pub urge_of : ℕ → Patience → Seen → Urge
urge_of u p seen = if nat_lt 0 p.pause then Wait else (if is_suspicion p seen then Suspect else (if is_lost p seen then Again else (if is_left_behind u p seen then Again else Wait)))

-- a pause goes by; each suspicion doubles the next one
abbrev pub after_tick : ℕ → Patience → Seen → Patience
after_tick u p seen = if nat_lt 0 p.pause then record p { pause = p.pause - 1 } else (if is_suspicion p seen then record p { pause = p.next_pause; next_pause = min (2 * p.next_pause) MOST_PAUSE } else p)
