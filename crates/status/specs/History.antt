-- What the page draws of the last minutes.
use Rattle.std.specs.Prelude.{ℕ, List, [], ◌∷◌, ◌++◌, length, drop, nat_lt, if◌then◌else◌}
use Rattle.figures.specs.Count.{sum_of}
use Rattle.figures.specs.declared.figures.Figures.{Figures}
use Rattle.status.specs.declared.history.Sample.{Sample}
use Rattle.status.specs.declared.history.TheConstants.{MOST_SAMPLES, SAMPLE_SECONDS}

pub record HistoryView : Type 0 where
  -- the oldest first
  pub samples : List Sample
  -- the next one is due in this second since the start
  pub due : ℕ

-- what is drawn of these figures
abbrev pub sample_of : Figures → Sample
sample_of f = record { uptime_seconds = f.uptime_seconds; requests = f.batches.requests; keys = f.keys; replies = f.reply_times.counts }

-- the oldest goes if there are more than are kept
abbrev pub without_excess : List Sample → List Sample
without_excess samples = if nat_lt MOST_SAMPLES (length samples) then drop 1 samples else samples

-- a sample of these figures is kept if it is due
abbrev pub history_after : HistoryView → Figures → HistoryView
history_after h f =
    if nat_lt f.uptime_seconds h.due then h
    else record { samples = without_excess (h.samples ++ sample_of f ∷ []); due = sum_of f.uptime_seconds SAMPLE_SECONDS }
