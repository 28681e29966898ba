-- Which event three words make.
use Rattle.std.specs.Prelude.{ℕ, ◌+◌, ◌-◌, ◌*◌, ◌%◌, ◌==◌, nat_lt, if◌then◌else◌, Option, Some, None}
use Rattle.rand_pcg.specs.Lcg.{Lcg}
use Rattle.rand_pcg.specs.Pcg.{pcg32}
use Rattle.events.specs.Config.{ConfigView}
use Rattle.events.specs.declared.event.Event.{Event}
use Rattle.events.specs.declared.event.Event.TheVariants.{Again, Deliver, Cut, Step, Finish, Suspect, Crash, Restart, FailSave}
use Rattle.events.specs.declared.event.Replica.{Replica}
use Rattle.events.specs.declared.event.Replica.TheVariants.{Executor, Verifier}

-- how many executors there are, and how many verifiers
abbrev pub replicas : ConfigView → ℕ
replicas config = 2 * config.u + 1

-- the number of an executor, or of a verifier
abbrev pub replica_number : ConfigView → ℕ → ℕ
replica_number config b = b % replicas config

-- an executor or a verifier, executors first
abbrev pub any_replica : ConfigView → ℕ → Replica
any_replica config b =
    let n = b % (2 * replicas config) in
    if nat_lt n (replicas config) then Executor n else Verifier (n - replicas config)

-- one of the letters that were sent, if any was
abbrev pub any_letter : ℕ → ℕ → Option Event
any_letter sent b = if sent == 0 then None else Some (Deliver (1 + b % sent))

-- The table: each second event is a letter that comes, and each other kind is one in 16.
unfoldable pub random_event : ConfigView → ℕ → ℕ → ℕ → ℕ → Option Event
random_event config sent a b c =
    let kind = a % 16 in
    if nat_lt kind 8 then any_letter sent b
    else if kind == 8 then Some (Step (replica_number config b) (c % 64))
    else if kind == 9 then Some (Finish (replica_number config b))
    else if kind == 10 then Some (Cut (replica_number config b) (1000 + c % 1000))
    else if kind == 11 then Some (Again (1 + b % config.clients))
    else if kind == 12 then Some (Suspect (replica_number config b))
    else if kind == 13 then Some (Crash (any_replica config b))
    else if kind == 14 then Some (Restart (any_replica config b))
    else Some (FailSave (any_replica config b))

-- the event of the next three words
abbrev pub next_event : ConfigView → ℕ → Lcg → Option Event
next_event config sent words =
    let a = pcg32 words in
    let b = pcg32 a.1 in
    let c = pcg32 b.1 in random_event config sent a.0 b.0 c.0

-- what follows the next three words
abbrev pub after_event : Lcg → Lcg
after_event words = (pcg32 (pcg32 (pcg32 words).1).1).1
