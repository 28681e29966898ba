-- How many of a set of nodes pass a test. Senders are counted, and not what they sent.
use Rattle.std.specs.Prelude.{ℕ, zero, suc, ◌+◌, ◌*◌, Bool, if◌then◌else◌, nat_lt}

-- how many numbers below the bound pass the test
abbrev pub count_below : (ℕ → Bool) → ℕ → ℕ
count_below test zero = 0
count_below test (suc n) = count_below test n + (if test n then 1 else 0)

-- there are as many verifiers, and as many executors, if at most u of them may fail
abbrev pub member_count : ℕ → ℕ
member_count u = 2 * u + 1

-- more than u of the members pass the test, so that any two such sets share a member
abbrev pub is_quorum : ℕ → (ℕ → Bool) → Bool
is_quorum u test = nat_lt u (count_below test (member_count u))
