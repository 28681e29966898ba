-- Which events a schedule makes. If it says `settle` or `random`, that depends on what came of those before it: so they happen in a world, one by one.
use Rattle.std.specs.Prelude.{◌≡◌, ◌⊎◌, ℕ, zero, suc, ◌≤◌, List, [], ◌∷◌, length, Option, None, Some}
use Rattle.rand_core.specs.Pcg32Seed.{pcg32_seed}
use Rattle.rand_pcg.specs.Lcg.{Lcg}
use Rattle.rand_pcg.specs.Pcg.{pcg32_of_seed}
use Rattle.events.specs.Config.{ConfigView}
use Rattle.events.specs.declared.event.Event.{Event}
use Rattle.events.specs.declared.event.Event.TheVariants.{Deliver}
use Rattle.makers.specs.Table.{next_event, after_event}
use Rattle.schedules.specs.declared.line.ScheduleLine.{ScheduleLine}
use Rattle.schedules.specs.declared.line.ScheduleLine.TheVariants.{Happens, Settle, Random}
use Rattle.worlds.specs.World.{WorldView, WorldNext}
use Rattle.worlds.specs.First.{first_world}
use Rattle.world.specs.Work.{IsNextWork}
use Rattle.app.specs.Past.{PastView, first_past, past_after, IsNextLetter}

-- a world, and what happened in it
pub record Stage : Type 0 where
  pub world : WorldView
  pub past : PastView

abbrev pub stage : WorldView → PastView → Stage
stage world past = record { world = world; past = past }

-- one event more
pub record HappensAt (s : Stage) (event : Event) (t : Stage) : Type 0 where
  pub world : WorldNext s.world event t.world
  pub past : t.past ≡ past_after s.past event (length t.world.letters)

-- ---- letters are delivered, and work is done

-- a letter that is left is delivered; if none is left, work goes on
abbrev pub NextIs : WorldView → Option ℕ → Option Event → Type 0
NextIs w (Some letter) next = next ≡ Some (Deliver letter)
NextIs w None next = IsNextWork w.executors next

-- What comes next: the lowest letter that no event delivered; if there is none, what comes next of the work of the lowest executor that is up and has work.
abbrev pub IsNextToSettle : Stage → Option Event → Type 0
IsNextToSettle s next = (letter : Option ℕ) × IsNextLetter s.past.delivered letter × NextIs s.world letter next

-- what comes next happens
abbrev pub SettlesOne : Stage → Stage → Type 0
SettlesOne s t = (event : Event) × IsNextToSettle s (Some event) × HappensAt s event t

-- so many times
abbrev pub SettlesTimes : ℕ → Stage → Stage → Type 0
SettlesTimes zero s t = t ≡ s
SettlesTimes (suc k) s t = (middle : Stage) × SettlesTimes k s middle × SettlesOne middle t

-- until nothing is left to do, by at most so many events
abbrev pub StageSettles : ℕ → Stage → Stage → Type 0
StageSettles most s t = (k : ℕ) × (k ≤ most) × SettlesTimes k s t × ((k ≡ most) ⊎ IsNextToSettle t None)

-- ---- events at random

-- the words that are left after so many events
abbrev pub words_after : ℕ → Lcg → Lcg
words_after zero words = words
words_after (suc k) words = after_event (words_after k words)

-- what the next words make, if they make anything
abbrev pub MayHappen : Stage → Option Event → Stage → Type 0
MayHappen s None t = t ≡ s
MayHappen s (Some event) t = HappensAt s event t

-- so many times
abbrev pub MadeOfWords : ConfigView → ℕ → Lcg → Stage → Stage → Type 0
MadeOfWords c zero words s t = t ≡ s
MadeOfWords c (suc k) words s t = (middle : Stage) × MadeOfWords c k words s middle × MayHappen middle (next_event c (length middle.world.letters) (words_after k words)) t

abbrev pub words_of_seed : ℕ → Lcg
words_of_seed seed = pcg32_of_seed (pcg32_seed 16 seed)

-- ---- a whole schedule

abbrev pub LineMakes : ConfigView → ScheduleLine → Stage → Stage → Type 0
LineMakes c (Happens event) s t = HappensAt s event t
LineMakes c (Settle most) s t = StageSettles most s t
LineMakes c (Random seed count) s t = MadeOfWords c count (words_of_seed seed) s t

-- the lines, one after the other
abbrev pub LinesMake : ConfigView → List ScheduleLine → Stage → Stage → Type 0
LinesMake c [] s t = t ≡ s
LinesMake c (line ∷ lines) s t = (middle : Stage) × LineMakes c line s middle × LinesMake c lines middle t

-- the first world, in which nothing happened yet
abbrev pub IsFirstStage : ConfigView → Stage → Type 0
IsFirstStage c s = s ≡ stage (first_world c) (first_past 0)

-- the events are those that the lines make, from the first world on
pub record Makes (c : ConfigView) (lines : List ScheduleLine) (events : List Event) : Type 0 where
  pub first : Stage
  pub last : Stage
  pub begins : IsFirstStage c first
  pub made : LinesMake c lines first last
  pub are : last.past.events ≡ events
