-- The lines of all metrics, by Prometheus' text form, version 0.0.4.
use Rattle.std.specs.Prelude.{ℕ, List, [], ◌∷◌, ◌++◌, ◌+◌, codes, flat_map, take, Option, Some, None, Bool, true, false, if◌then◌else◌, ◌||◌, nat_lt}
use Rattle.figures.specs.declared.figures.Figures.{Figures}
use Rattle.figures.specs.declared.figures.Replicas.{Replicas}
use Rattle.figures.specs.declared.commands.Commands.{Commands}
use Rattle.figures.specs.declared.histogram.Histogram.{Histogram}
use Rattle.figures.specs.declared.histogram.TheConstants.{BOUNDS}
use Rattle.figures.specs.declared.node.NodeFigures.{NodeFigures}
use Rattle.figures.specs.declared.kind.Kind.{Kind}
use Rattle.figures.specs.declared.kind.TheConstants.{ALL_KINDS}
use Rattle.figures.specs.declared.outcome.Outcome.{Outcome}
use Rattle.figures.specs.declared.outcome.TheConstants.{ALL_OUTCOMES}
use Rattle.figures.specs.declared.refusal.Refusal.{Refusal}
use Rattle.figures.specs.declared.refusal.Refusals.{Refusals}
use Rattle.figures.specs.declared.refusal.TheConstants.{ALL_REFUSALS}
use Rattle.figures.specs.Kind.{kind_has}
use Rattle.figures.specs.Refusal.{refusal_count}
use Rattle.figures.specs.Commands.{kind_count}
use Rattle.figures.specs.Count.{sum_of}
use Rattle.metrics.specs.declared.folder.FolderFigures.{FolderFigures}
use Rattle.metrics.specs.declared.folder.Folders.{Folders}
use Rattle.metrics.specs.declared.metric.Metric.{Metric}
use Rattle.metrics.specs.declared.metric.Metric.TheVariants as metric
use Rattle.metrics.specs.declared.metric.TheConstants.{ALL_METRICS}
use Rattle.metrics.specs.declared.sample.Role.{Role}
use Rattle.metrics.specs.declared.sample.Role.TheVariants.{Executor, Verifier}
use Rattle.metrics.specs.declared.sample.Labels.{Labels}
use Rattle.metrics.specs.declared.sample.Labels.TheVariants as labels
use Rattle.metrics.specs.declared.sample.Suffix.TheVariants as suffix
use Rattle.metrics.specs.declared.sample.Number.TheVariants.{Whole, Micros}
use Rattle.metrics.specs.Metric.{metric_name, metric_help, metric_type_of}
use Rattle.metrics.specs.MetricType.{type_name}
use Rattle.metrics.specs.Plain.{plain_value}
use Rattle.metrics.specs.Sample.{sample_text}

-- the HELP and the TYPE line
abbrev pub metric_head : Metric → List ℕ
metric_head m = codes "# HELP " ++ metric_name m ++ codes " " ++ metric_help m ++ codes "\n# TYPE " ++ metric_name m ++ codes " " ++ type_name (metric_type_of m) ++ codes "\n"

-- a line with a whole number
abbrev pub whole_sample_text : Metric → Labels → ℕ → List ℕ
whole_sample_text m l n = sample_text (record { metric = m; suffix = suffix.None; labels = l; number = Whole n })

-- the line of a command and an outcome, if the protocol has it or it was counted
unfoldable pub outcome_text : Kind → Outcome → ℕ → List ℕ
outcome_text k o n = if (kind_has k o || nat_lt 0 n) then whole_sample_text metric.Commands (labels.Command k o) n else []

abbrev pub outcomes_text : Commands → Kind → List Outcome → List ℕ
outcomes_text commands k = flat_map (λ o. outcome_text k o (kind_count commands k o))

-- the lines of a command
unfoldable pub kind_lines : Commands → Kind → List ℕ
kind_lines commands k = outcomes_text commands k ALL_OUTCOMES

abbrev pub commands_text : Commands → List Kind → List ℕ
commands_text commands = flat_map (kind_lines commands)

-- the lines of all commands
unfoldable pub all_commands_text : Commands → List ℕ
all_commands_text commands = commands_text commands ALL_KINDS

-- the lines of these reasons for which lines are refused
abbrev pub refusals_text : Refusals → List Refusal → List ℕ
refusals_text counts = flat_map (λ r. whole_sample_text metric.LinesRefused (labels.Why r) (refusal_count counts r))

-- the lines of all reasons
unfoldable pub all_refusals_text : Refusals → List ℕ
all_refusals_text counts = refusals_text counts ALL_REFUSALS

abbrev pub bucket_bit : Bool → ℕ
bucket_bit true = 1
bucket_bit false = 0

abbrev pub node_value : Metric → NodeFigures → ℕ
node_value metric.NodeUp node = bucket_bit node.is_up
node_value _ node = node.stops

-- the lines of these nodes, of which the first has this number
abbrev pub nodes_text : Metric → Role → ℕ → List NodeFigures → List ℕ
nodes_text m role id [] = []
nodes_text m role id (node ∷ nodes) = whole_sample_text m (labels.Node role id) (node_value m node) ++ nodes_text m role (id + 1) nodes

abbrev pub all_nodes_text : Metric → Replicas → List ℕ
all_nodes_text m r = nodes_text m Executor 0 (take r.members r.executors) ++ nodes_text m Verifier 0 (take r.members r.verifiers)

abbrev pub folder_value : Metric → FolderFigures → ℕ
folder_value metric.FolderCurrent folder = bucket_bit folder.is_current
folder_value metric.FolderSaves folder = folder.made
folder_value metric.FolderFailures folder = folder.failed
folder_value metric.FolderSaved folder = folder.saved_at
folder_value _ folder = folder.bytes

-- the lines of these folders, of which the first has this number
abbrev pub folders_text : Metric → ℕ → List FolderFigures → List ℕ
folders_text m number [] = []
folders_text m number (folder ∷ folders) = whole_sample_text m (labels.Folder number) (folder_value m folder) ++ folders_text m (number + 1) folders

abbrev pub all_folders_text : Metric → Folders → List ℕ
all_folders_text m f = folders_text m 0 (take f.count f.each)

abbrev pub bound_of : List ℕ → Option ℕ
bound_of [] = None
bound_of (bound ∷ _) = Some bound

abbrev pub bounds_after : List ℕ → List ℕ
bounds_after [] = []
bounds_after (_ ∷ bounds) = bounds

unfoldable pub bucket_text : Metric → Option ℕ → ℕ → List ℕ
bucket_text m bound total = sample_text (record { metric = m; suffix = suffix.Bucket; labels = labels.Bucket bound; number = Whole total })

-- each bucket's line has the count of all times up to its bound
abbrev pub buckets_text : Metric → List ℕ → ℕ → List ℕ → List ℕ
buckets_text m bounds before [] = []
buckets_text m bounds before (count ∷ counts) =
    bucket_text m (bound_of bounds) (sum_of before count) ++ buckets_text m (bounds_after bounds) (sum_of before count) counts

abbrev pub total_from : ℕ → List ℕ → ℕ
total_from before [] = before
total_from before (count ∷ counts) = total_from (sum_of before count) counts

abbrev pub histogram_text : Metric → Histogram → List ℕ
histogram_text m h =
    buckets_text m BOUNDS 0 h.counts
    ++ sample_text (record { metric = m; suffix = suffix.Sum; labels = labels.None; number = Micros h.sum })
    ++ sample_text (record { metric = m; suffix = suffix.Count; labels = labels.None; number = Whole (total_from 0 h.counts) })

-- the lines of a metric: of the figures, or of the folders
abbrev pub samples_text : Figures → Folders → Metric → List ℕ
samples_text f folders (metric.Plain p) = whole_sample_text (metric.Plain p) labels.None (plain_value f p)
samples_text f folders metric.Commands = all_commands_text f.commands
samples_text f folders metric.LinesRefused = all_refusals_text f.refusals
samples_text f folders metric.NodeUp = all_nodes_text metric.NodeUp f.replicas
samples_text f folders metric.NodeStops = all_nodes_text metric.NodeStops f.replicas
samples_text f folders metric.FolderCurrent = all_folders_text metric.FolderCurrent folders
samples_text f folders metric.FolderSaves = all_folders_text metric.FolderSaves folders
samples_text f folders metric.FolderFailures = all_folders_text metric.FolderFailures folders
samples_text f folders metric.FolderSaved = all_folders_text metric.FolderSaved folders
samples_text f folders metric.FolderBytes = all_folders_text metric.FolderBytes folders
samples_text f folders metric.ReplySeconds = histogram_text metric.ReplySeconds f.reply_times
samples_text f folders metric.BatchSeconds = histogram_text metric.BatchSeconds f.batch_times
samples_text f folders metric.BatchWaitSeconds = histogram_text metric.BatchWaitSeconds f.batch_parts.wait
samples_text f folders metric.BatchExecuteSeconds = histogram_text metric.BatchExecuteSeconds f.batch_parts.execute
samples_text f folders metric.BatchAgreeSeconds = histogram_text metric.BatchAgreeSeconds f.batch_parts.agree
samples_text f folders metric.BatchCommitSeconds = histogram_text metric.BatchCommitSeconds f.batch_parts.commit
samples_text f folders metric.SaveSeconds = histogram_text metric.SaveSeconds f.saves.times

abbrev pub family_text : Figures → Folders → Metric → List ℕ
family_text f folders m = metric_head m ++ samples_text f folders m

-- all that /metrics shows of these figures and folders
unfoldable pub metrics_text : Figures → Folders → List ℕ
metrics_text f folders = flat_map (family_text f folders) ALL_METRICS
