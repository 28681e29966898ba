-- What is read is what the file spells.
use Rattle.std.proofs.Common.{◌≡◌, ℕ, List, map, None, Ok, refl, subst}
use Rattle.events.specs.Config.{ConfigView}
use Rattle.schedules.specs.declared.fault.ScheduleFault.{ScheduleFault}
use Rattle.schedules.specs.declared.fault.ScheduleFault.TheVariants.{NoMemory, BadSchedule}
use Rattle.schedules.specs.declared.schedule.Schedule.{Schedule}
use Rattle.schedules.specs.Schedule.{lines_of, told_lines, SpellsSchedule, IsRefusedRightly}
use Rattle.schedules.specs.Reading.{line_view, head_said, lines_said, IsFaultOf}
use Rattle.schedules.proofs.HeadLemmas.{Tells, head_tells, lines_tell, says_schedule}
use Rattle.schedules.proofs.BadLemmas.{head_bad, head_then_bad, lines_bad, first_bad}

pub head_refused : (bytes : List ℕ) (fault : ScheduleFault) → IsFaultOf fault (head_said None 0 (lines_of bytes)) → IsRefusedRightly bytes fault
head_refused bytes NoMemory h = tt
head_refused bytes (BadSchedule n) h = first_bad (lines_of bytes) n (head_bad None 0 (lines_of bytes) n h)

module _ (bytes : List ℕ) (h : ConfigView × ℕ × List (List ℕ)) (head : head_said None 0 (lines_of bytes) ≡ Ok h) where
  pub lines_refused : (fault : ScheduleFault) → IsFaultOf fault (lines_said h.1 h.2) → IsRefusedRightly bytes fault
  lines_refused NoMemory e = tt
  lines_refused (BadSchedule n) e = first_bad (lines_of bytes) n (head_then_bad None 0 (lines_of bytes) h n head (lines_bad 0 h.1 h.2 n e))

  pub is_spelled : (s : Schedule) → h.0 ≡ s.config → lines_said h.1 h.2 ≡ Ok (map line_view s.lines.items) → SpellsSchedule bytes s
  is_spelled s config e =
      let all = lines_tell h.1 h.2 (map line_view s.lines.items) e s.lines.items refl in
      let tells = head_tells None 0 (lines_of bytes) h head s.lines.items all in
      says_schedule (told_lines (lines_of bytes)) s (subst (λ (c : ConfigView). Tells None (told_lines (lines_of bytes)) c s.lines.items) config tells)
