-- What is shown of a schedule.
use Rattle.std.specs.Prelude.{◌≡◌, ℕ, List, take, Option, Ok, Err, IfSome}
use Rattle.std.specs.Io.KnownBytes.{Appends}
use Rattle.events.specs.declared.event.Event.{Event}
use Rattle.schedules.specs.declared.fault.ScheduleFault.{ScheduleFault}
use Rattle.schedules.specs.declared.schedule.Schedule.{Schedule}
use Rattle.schedules.specs.Schedule.{SpellsSchedule, IsRefusedRightly}
use Rattle.streams.specs.Writes.{Taken, IsWrittenOut}
use Rattle.worlds.specs.World.{WorldView, IsReached}
use Rattle.app.specs.declared.fault.PlayFault.{PlayFault}
use Rattle.app.specs.declared.fault.PlayFault.TheVariants.{Refused, Read}
use Rattle.app.specs.Making.{Makes}
use Rattle.app.specs.Printed.{world_text, refusal_text}

-- The text shows the world in which the schedule ends: the bytes spell a schedule, this makes events, and they lead to a world of which the text is.
pub record Shows (bytes text : List ℕ) : Type 0 where
  pub schedule : Schedule
  pub spelled : SpellsSchedule bytes schedule
  pub events : List Event
  pub made : Makes schedule.config schedule.lines.items events
  pub world : WorldView
  pub reached : IsReached schedule.config events world
  pub printed : text ≡ world_text world

module _ {S : Type 0} (takes : S → List ℕ → Taken → S → Type 0) (contents : S → Option (List ℕ)) where
  -- all of the text was written, by writes that each took some of the rest
  pub record IsPrinted (text : List ℕ) (before after : S) : Type 0 where
    pub bytes : Appends (contents before) (contents after) text
    pub writes : IsWrittenOut takes before after text (Ok tt)

  -- a beginning of the text was written, and then a write failed, after which none was made
  pub record IsPrintedInPart (text : List ℕ) (before after : S) : Type 0 where
    pub sent : ℕ
    pub bytes : Appends (contents before) (contents after) (take sent text)
    pub writes : IsWrittenOut takes before after text (Err sent)

  -- all of what is shown was written: if the bytes are known that were read, it is what is shown of them
  abbrev pub IsShown : Option (List ℕ) → S → S → Type 0
  IsShown known before after = (text : List ℕ) × IfSome known (λ bytes. Shows bytes text) × IsPrinted text before after

  -- a beginning of it was written
  abbrev pub IsShownInPart : Option (List ℕ) → S → S → Type 0
  IsShownInPart known before after = (text : List ℕ) × IfSome known (λ bytes. Shows bytes text) × IsPrintedInPart text before after

-- the refusal was written, and it is the right one
abbrev pub IsRefused : List ℕ → Option (List ℕ) → Option (List ℕ) → Type 0
IsRefused bytes old new = (fault : ScheduleFault) × IsRefusedRightly bytes fault × Appends old new (refusal_text fault)

-- what was read is refused rightly, or could not be read
abbrev pub IsPlayFaultOf : Option (List ℕ) → PlayFault → Type 0
IsPlayFaultOf known (Refused fault) = IfSome known (λ bytes. IsRefusedRightly bytes fault)
IsPlayFaultOf known Read = Unit {0}
