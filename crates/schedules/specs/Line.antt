-- What a line of a schedule says, after those of `u` and `clients`.
use Rattle.std.specs.Prelude.{◌≡◌, ◌⊎◌, ℕ, ◌+◌, ◌^◌, min, List, ◌++◌, Option, Some, codes}
use Rattle.std.specs.Option.{option_map}
use Rattle.proto.specs.Number.{number_below}
use Rattle.events.specs.declared.event.Event.{Event}
use Rattle.events.specs.declared.event.Event.TheVariants.{Feed, Again, Hangup, Deliver, Cut, Step, Finish, Suspect, Trim, Crash, Restart, Lost, FailSave}
use Rattle.events.specs.declared.event.Replica.{Replica}
use Rattle.events.specs.declared.event.Replica.TheVariants.{Executor, Verifier}
use Rattle.schedules.specs.declared.number.TheConstants.{MOST_EVENTS, MOST_PLACES}
use Rattle.schedules.specs.declared.line.ScheduleLine.{ScheduleLine}
use Rattle.schedules.specs.declared.line.ScheduleLine.TheVariants.{Happens, Settle, Random}
use Rattle.schedules.specs.Parts.{BeginsWith, Joins}
use Rattle.schedules.specs.Escape.{IsEscaped}

-- the decimal digits write this number, which is below the limit
abbrev pub Writes : ℕ → ℕ → List ℕ → Type 0
Writes limit n digits = number_below limit digits ≡ Some n

-- A number of a node, below 2^64. No world has a node of the greatest number that an event can name, or of a greater one. So a greater one is read as that: neither names anything.
abbrev pub node_number : ℕ → List ℕ → Option ℕ
node_number greatest digits = option_map (min greatest) (number_below (2 ^ 64) digits)

abbrev pub greatest_client : ℕ
greatest_client = 65535

abbrev pub greatest_replica : ℕ
greatest_replica = 255

abbrev pub NamesClient : ℕ → List ℕ → Type 0
NamesClient c digits = node_number greatest_client digits ≡ Some c

-- an executor, or a verifier, if it is known which of them it is
abbrev pub NumbersReplica : ℕ → List ℕ → Type 0
NumbersReplica id digits = node_number greatest_replica digits ≡ Some id

-- `e` or `v`, and a number
abbrev pub NamesReplica : Replica → List ℕ → Type 0
NamesReplica (Executor id) word = (digits : List ℕ) × (word ≡ codes "e" ++ digits) × NumbersReplica id digits
NamesReplica (Verifier id) word = (digits : List ℕ) × (word ≡ codes "v" ++ digits) × NumbersReplica id digits

-- the line by which these bytes come from a client
abbrev pub IsFeedText : ℕ → List ℕ → List ℕ → Type 0
IsFeedText c bytes = BeginsWith (codes "feed") (Joins (NamesClient c) (IsEscaped bytes))

-- the line of an event
abbrev pub IsEventText : Event → List ℕ → Type 0
IsEventText (Feed c bytes) = IsFeedText c bytes.items
IsEventText (Again c) = BeginsWith (codes "again") (NamesClient c)
IsEventText (Hangup c) = BeginsWith (codes "hangup") (NamesClient c)
IsEventText (Deliver letter) = BeginsWith (codes "deliver") (Writes (2 ^ 64) letter)
IsEventText (Cut id moment) = BeginsWith (codes "cut") (Joins (NumbersReplica id) (Writes (2 ^ 32) moment))
IsEventText (Step id place) = BeginsWith (codes "step") (Joins (NumbersReplica id) (Writes MOST_PLACES place))
IsEventText (Finish id) = BeginsWith (codes "finish") (NumbersReplica id)
IsEventText (Suspect id) = BeginsWith (codes "suspect") (NumbersReplica id)
-- no line says it
IsEventText (Trim id place) = λ line. ⊥
IsEventText (Crash replica) = BeginsWith (codes "crash") (NamesReplica replica)
IsEventText (Restart replica) = BeginsWith (codes "restart") (NamesReplica replica)
IsEventText (Lost replica) = BeginsWith (codes "lose") (NamesReplica replica)
IsEventText (FailSave replica) = BeginsWith (codes "failsave") (NamesReplica replica)

abbrev pub IsLineText : ScheduleLine → List ℕ → Type 0
IsLineText (Happens event) = IsEventText event
IsLineText (Settle most) = BeginsWith (codes "settle") (Writes (MOST_EVENTS + 1) most)
IsLineText (Random seed count) = BeginsWith (codes "random") (Joins (Writes (2 ^ 64) seed) (Writes (MOST_EVENTS + 1) count))

-- The line says something: that some bytes come, wherever they lie in memory, or else.
abbrev pub SaysSomething : List ℕ → Type 0
SaysSomething line = ((c : ℕ) × (bytes : List ℕ) × IsFeedText c bytes line) ⊎ ((said : ScheduleLine) × IsLineText said line)
