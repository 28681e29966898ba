-- What holds of schedules and their texts.
use Rattle.std.specs.Prelude.{◌≡◌, ℕ, ◌<◌, List, map}
use Rattle.std.specs.List.{AllByRecursion}
use Rattle.schedules.specs.declared.schedule.Schedule.{Schedule}
use Rattle.schedules.specs.Escape.{IsEscaped, printed_text}
use Rattle.schedules.specs.Schedule.{lines_of, SpellsSchedule, IsFirstBad}
use Rattle.schedules.specs.Reading.{line_view}

-- they say the same, wherever the bytes of their Feeds lie in memory
pub record IsSameSchedule (s t : Schedule) : Type 0 where
  pub config : s.config ≡ t.config
  pub lines : map line_view s.lines.items ≡ map line_view t.lines.items

abbrev pub OneIsSpelled : Type 0
OneIsSpelled = (bytes : List ℕ) (s t : Schedule) → SpellsSchedule bytes s → SpellsSchedule bytes t → IsSameSchedule s t

abbrev pub BadLineSpellsNone : Type 0
BadLineSpellsNone = (bytes : List ℕ) (number : ℕ) (s : Schedule) → IsFirstBad (lines_of bytes) number → SpellsSchedule bytes s → ⊥

abbrev pub OneIsFirstBad : Type 0
OneIsFirstBad = (lines : List (List ℕ)) (a b : ℕ) → IsFirstBad lines a → IsFirstBad lines b → a ≡ b

abbrev pub PrintedIsRead : Type 0
PrintedIsRead = (bytes : List ℕ) → AllByRecursion (λ b. b < 256) bytes → IsEscaped bytes (printed_text bytes)
