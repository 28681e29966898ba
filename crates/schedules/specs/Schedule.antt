-- What a file says as a schedule.
use Rattle.std.specs.Prelude.{◌≡◌, ◌⊎◌, ℕ, zero, suc, ◌+◌, ◌<◌, ◌≤◌, ◌==◌, not, Bool, true, List, [], ◌∷◌, length, take, filter, if◌then◌else◌, codes}
use Rattle.std.specs.List.{AllZip, onto_first}
use Rattle.schedules.specs.declared.schedule.TheConstants.{MOST_CLIENTS}
use Rattle.schedules.specs.declared.fault.ScheduleFault.{ScheduleFault}
use Rattle.schedules.specs.declared.fault.ScheduleFault.TheVariants.{NoMemory, BadSchedule}
use Rattle.schedules.specs.declared.schedule.Schedule.{Schedule}
use Rattle.schedules.specs.Parts.{BeginsWith}
use Rattle.schedules.specs.Line.{Writes, IsLineText, SaysSomething}

-- the lines of a file: each ends at a byte 10, which the last one may lack
abbrev pub lines_of : List ℕ → List (List ℕ)
lines_of [] = []
lines_of (b ∷ bs) = if b == 10 then [] ∷ lines_of bs else onto_first b (lines_of bs)

-- an empty line, or one that begins with `#`
abbrev pub is_skipped : List ℕ → Bool
is_skipped [] = true
is_skipped (b ∷ bs) = b == 35

-- the lines that say something
abbrev pub told_lines : List (List ℕ) → List (List ℕ)
told_lines lines = filter (λ line. not (is_skipped line)) lines

-- the first of them
abbrev pub IsSizeText : ℕ → List ℕ → Type 0
IsSizeText u = BeginsWith (codes "u") (Writes 4 u)

-- the second one
abbrev pub IsClientsText : ℕ → List ℕ → Type 0
IsClientsText clients line = BeginsWith (codes "clients") (Writes (MOST_CLIENTS + 1) clients) line × (1 ≤ clients)

-- lines that say something, and all that they say
abbrev pub SaySchedule : List (List ℕ) → Schedule → Type 0
SaySchedule [] s = ⊥
SaySchedule (size ∷ []) s = ⊥
SaySchedule (size ∷ clients ∷ lines) s = IsSizeText s.config.u size × IsClientsText s.config.clients clients × AllZip IsLineText s.lines.items lines

-- the bytes of the file spell this schedule
abbrev pub SpellsSchedule : List ℕ → Schedule → Type 0
SpellsSchedule bytes s = SaySchedule (told_lines (lines_of bytes)) s

-- ---- what is refused

-- the line is allowed at this place among those that say something, counted from 0
abbrev pub FitsPlace : ℕ → List ℕ → Type 0
FitsPlace zero line = (u : ℕ) × IsSizeText u line
FitsPlace (suc zero) line = (clients : ℕ) × IsClientsText clients line
FitsPlace (suc (suc n)) line = SaysSomething line

-- they may come one after another, from this place on
abbrev pub AllFit : ℕ → List (List ℕ) → Type 0
AllFit place [] = Unit {0}
AllFit place (line ∷ lines) = FitsPlace place line × AllFit (suc place) lines

-- The line of this number, counted from 1, is the first one that may not be where it is; or it is missing, as the file ends before `u` and `clients`.
pub record IsFirstBad (lines : List (List ℕ)) (number : ℕ) : Type 0 where
  -- how many lines are before it
  pub before : ℕ
  pub numbered : number ≡ suc before
  pub all_fit : AllFit 0 (told_lines (take before lines))
  pub bad : ((before < length lines) × (AllFit 0 (told_lines (take (suc before) lines)) → ⊥)) ⊎ ((before ≡ length lines) × (length (told_lines lines) < 2))

-- a fault says which line that is, unless memory ran out
abbrev pub IsRefusedRightly : List ℕ → ScheduleFault → Type 0
IsRefusedRightly bytes NoMemory = Unit {0}
IsRefusedRightly bytes (BadSchedule line) = IsFirstBad (lines_of bytes) line
