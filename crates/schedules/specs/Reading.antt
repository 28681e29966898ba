-- Reading from left to right, line by line.
use Rattle.std.specs.Prelude.{◌≡◌, ℕ, ◌+◌, ◌^◌, nat_le, ◌==◌, List, [], ◌∷◌, ◌++◌, Option, None, Some, Result, Ok, Err, if◌then◌else◌, codes, bytes_eq}
use Rattle.std.specs.Option.{option_map}
use Rattle.proto.specs.Line.{◌>>=◌}
use Rattle.proto.specs.Number.{number_below}
use Rattle.events.specs.Config.{ConfigView}
use Rattle.schedules.specs.declared.schedule.TheConstants.{MOST_CLIENTS}
use Rattle.events.specs.declared.event.Event.{Event}
use Rattle.events.specs.declared.event.Event.TheVariants.{Feed, Again, Hangup, Deliver, Cut, Step, Finish, Suspect, Crash, Restart, Lost, FailSave}
use Rattle.events.specs.declared.event.Replica.{Replica}
use Rattle.events.specs.declared.event.Replica.TheVariants.{Executor, Verifier}
use Rattle.schedules.specs.declared.fault.ScheduleFault.{ScheduleFault}
use Rattle.schedules.specs.declared.fault.ScheduleFault.TheVariants.{NoMemory, BadSchedule}
use Rattle.schedules.specs.declared.keyword.Keyword.{Keyword}
use Rattle.schedules.specs.declared.keyword.Keyword.TheVariants as keyword
use Rattle.schedules.specs.declared.number.TheConstants.{MOST_EVENTS, MOST_PLACES}
use Rattle.schedules.specs.declared.line.ScheduleLine.{ScheduleLine}
use Rattle.schedules.specs.declared.line.ScheduleLine.TheVariants.{Happens, Settle, Random}
use Rattle.schedules.specs.Parts.{parted, pair_said}
use Rattle.schedules.specs.Escape.{unescaped}
use Rattle.schedules.specs.Line.{node_number, greatest_client, greatest_replica}
use Rattle.schedules.specs.Schedule.{is_skipped}

-- what a line says, without where the bytes of a Feed lie in memory
pub data LineView : Type 0 where
  Feeds : ℕ → List ℕ → LineView
  Says : ScheduleLine → LineView

abbrev pub line_view : ScheduleLine → LineView
line_view (Happens (Feed c bytes)) = Feeds c bytes.items
line_view line = Says line

abbrev pub client_said : List ℕ → Option ℕ
client_said digits = node_number greatest_client digits

abbrev pub replica_number_said : List ℕ → Option ℕ
replica_number_said digits = node_number greatest_replica digits

abbrev pub replica_said : List ℕ → Option Replica
replica_said [] = None
replica_said (b ∷ digits) =
    if b == 101 then option_map Executor (replica_number_said digits)
    else if b == 118 then option_map Verifier (replica_number_said digits)
    else None

abbrev pub keyword_of : List ℕ → Option Keyword
keyword_of w =
    if bytes_eq w (codes "feed") then Some keyword.Feed
    else if bytes_eq w (codes "again") then Some keyword.Again
    else if bytes_eq w (codes "hangup") then Some keyword.Hangup
    else if bytes_eq w (codes "deliver") then Some keyword.Deliver
    else if bytes_eq w (codes "cut") then Some keyword.Cut
    else if bytes_eq w (codes "step") then Some keyword.Step
    else if bytes_eq w (codes "finish") then Some keyword.Finish
    else if bytes_eq w (codes "suspect") then Some keyword.Suspect
    else if bytes_eq w (codes "crash") then Some keyword.Crash
    else if bytes_eq w (codes "restart") then Some keyword.Restart
    else if bytes_eq w (codes "lose") then Some keyword.Lose
    else if bytes_eq w (codes "failsave") then Some keyword.FailSave
    else if bytes_eq w (codes "settle") then Some keyword.Settle
    else if bytes_eq w (codes "random") then Some keyword.Random
    else None

-- an event other than a Feed, by the first word and what follows the space after it
abbrev pub event_said : Keyword → List ℕ → Option Event
event_said keyword.Again rest = option_map Again (client_said rest)
event_said keyword.Hangup rest = option_map Hangup (client_said rest)
event_said keyword.Deliver rest = option_map Deliver (number_below (2 ^ 64) rest)
event_said keyword.Cut rest = option_map (λ p. Cut p.0 p.1) (pair_said replica_number_said (number_below (2 ^ 32)) rest)
event_said keyword.Step rest = option_map (λ p. Step p.0 p.1) (pair_said replica_number_said (number_below MOST_PLACES) rest)
event_said keyword.Finish rest = option_map Finish (replica_number_said rest)
event_said keyword.Suspect rest = option_map Suspect (replica_number_said rest)
event_said keyword.Crash rest = option_map Crash (replica_said rest)
event_said keyword.Restart rest = option_map Restart (replica_said rest)
event_said keyword.Lose rest = option_map Lost (replica_said rest)
event_said keyword.FailSave rest = option_map FailSave (replica_said rest)
event_said keyword.Feed rest = None
event_said keyword.Settle rest = None
event_said keyword.Random rest = None

abbrev pub feed_said : List ℕ → Option LineView
feed_said rest = option_map (λ p. Feeds p.0 p.1) (pair_said client_said unescaped rest)

abbrev pub settle_said : List ℕ → Option ScheduleLine
settle_said rest = option_map Settle (number_below (MOST_EVENTS + 1) rest)

abbrev pub random_said : List ℕ → Option ScheduleLine
random_said rest = option_map (λ p. Random p.0 p.1) (pair_said (number_below (2 ^ 64)) (number_below (MOST_EVENTS + 1)) rest)

abbrev pub said_by : Keyword → List ℕ → Option LineView
said_by keyword.Feed rest = feed_said rest
said_by keyword.Settle rest = option_map Says (settle_said rest)
said_by keyword.Random rest = option_map Says (random_said rest)
said_by k rest = option_map (λ event. Says (Happens event)) (event_said k rest)

-- what a line says, if it says anything
abbrev pub line_said : List ℕ → Option LineView
line_said line = do
  p ← parted 32 line
  k ← keyword_of p.0
  said_by k p.1

abbrev pub size_said : List ℕ → Option ℕ
size_said line = do
  p ← parted 32 line
  if bytes_eq p.0 (codes "u") then number_below 4 p.1 else None

abbrev pub clients_said : List ℕ → Option ℕ
clients_said line = do
  p ← parted 32 line
  clients ← (if bytes_eq p.0 (codes "clients") then number_below (MOST_CLIENTS + 1) p.1 else None)
  if nat_le 1 clients then Some clients else None

-- ---- a whole file

abbrev pub or_bad : {A B : Type 0} → Option A → ℕ → (A → Result B ℕ) → Result B ℕ
or_bad None number then_on = Err number
or_bad (Some a) number then_on = then_on a

-- The size of the world, how many lines there were so far, and those that remain; or the number of the first bad line. So many are before these lines, with `u` among them or not.
abbrev pub head_said : Option ℕ → ℕ → List (List ℕ) → Result (ConfigView × ℕ × List (List ℕ)) ℕ
head_said u before [] = Err (before + 1)
head_said None before (line ∷ lines) =
    if is_skipped line then head_said None (before + 1) lines
    else or_bad (size_said line) (before + 1) (λ u. head_said (Some u) (before + 1) lines)
head_said (Some u) before (line ∷ lines) =
    if is_skipped line then head_said (Some u) (before + 1) lines
    else or_bad (clients_said line) (before + 1) (λ clients. Ok (record { u = u; clients = clients }, before + 1, lines))

abbrev pub with_lines : List LineView → Result (List LineView) ℕ → Result (List LineView) ℕ
with_lines front (Ok lines) = Ok (front ++ lines)
with_lines front (Err number) = Err number

-- what the lines after these many say
abbrev pub lines_said : ℕ → List (List ℕ) → Result (List LineView) ℕ
lines_said before [] = Ok []
lines_said before (line ∷ lines) =
    if is_skipped line then lines_said (before + 1) lines
    else or_bad (line_said line) (before + 1) (λ said. with_lines (said ∷ []) (lines_said (before + 1) lines))

-- a fault is the one that was read, or want of memory
abbrev pub IsFaultOf : {Y : Type 0} → ScheduleFault → Result Y ℕ → Type 0
IsFaultOf NoMemory said = Unit {0}
IsFaultOf (BadSchedule line) said = said ≡ Err line

-- what a call gives is what reading gives, unless memory runs out
abbrev pub GivesSaid : {X Y : Type 0} → (X → Y) → Result X ScheduleFault → Result Y ℕ → Type 0
GivesSaid view (Ok x) said = said ≡ Ok (view x)
GivesSaid view (Err fault) said = IsFaultOf fault said
