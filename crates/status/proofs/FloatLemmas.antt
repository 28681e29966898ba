-- The figures as JSON have no float.
use Rattle.std.proofs.Common.{◌≡◌, ℕ, List, [], ◌∷◌, map, take, false, refl}
use Rattle.figures.specs.declared.figures.Figures.{Figures}
use Rattle.figures.specs.declared.figures.BatchParts.{BatchParts}
use Rattle.figures.specs.declared.figures.Replicas.{Replicas}
use Rattle.figures.specs.declared.histogram.Histogram.{Histogram}
use Rattle.figures.specs.declared.commands.Commands.{Commands}
use Rattle.figures.specs.declared.kind.Kind.{Kind}
use Rattle.figures.specs.declared.kind.TheConstants.{ALL_KINDS}
use Rattle.figures.specs.declared.node.NodeFigures.{NodeFigures}
use Rattle.serde_json.specs.Written.{has_float, items_have_float}
use Rattle.serde_json.specs.View.{items_of}
use Rattle.metrics.specs.declared.folder.FolderFigures.{FolderFigures}
use Rattle.metrics.specs.declared.folder.Folders.{Folders}
use Rattle.status.specs.Data.{whole, folder_data, all_folders_data, outcomes_data, all_commands_data, connections_data, limits_data, server_data, times_data, refusals_data, keys_data, batches_data, memory_data, saves_data, node_data, histogram_data, batch_parts_data, replicas_data, figures_data, sample_data, history_data}
use Rattle.status.specs.declared.history.Sample.{Sample}

no_float_in_wholes : (counts : List ℕ) → items_have_float (items_of (map whole counts)) ≡ false
no_float_in_wholes [] = refl
no_float_in_wholes (_ ∷ counts) = no_float_in_wholes counts

no_float_in_outcomes : (c : Commands) (k : Kind) → has_float (outcomes_data c k) ≡ false
unfolding outcomes_data
no_float_in_outcomes c k = refl

no_float_in_commands : (c : Commands) (kinds : List Kind) → items_have_float (items_of (map (outcomes_data c) kinds)) ≡ false
no_float_in_commands c [] = refl
no_float_in_commands c (k ∷ kinds) = rw (no_float_in_outcomes c k) (no_float_in_commands c kinds)

no_float_in_nodes : (nodes : List NodeFigures) → items_have_float (items_of (map node_data nodes)) ≡ false
unfolding node_data
no_float_in_nodes [] = refl
no_float_in_nodes (_ ∷ nodes) = no_float_in_nodes nodes

no_float_in_replicas : (r : Replicas) → has_float (replicas_data r) ≡ false
unfolding replicas_data
no_float_in_replicas r = rw (no_float_in_nodes r.executors) (rw (no_float_in_nodes r.verifiers) refl)

no_float_in_histogram : (h : Histogram) → has_float (histogram_data h) ≡ false
unfolding histogram_data
no_float_in_histogram h = rw (no_float_in_wholes h.counts) refl

no_float_in_batch_parts : (p : BatchParts) → has_float (batch_parts_data p) ≡ false
unfolding batch_parts_data
no_float_in_batch_parts p =
    rw (no_float_in_histogram p.wait)
    (rw (no_float_in_histogram p.execute)
    (rw (no_float_in_histogram p.agree)
    (rw (no_float_in_histogram p.commit) refl)))

no_float_in_times : (f : Figures) → has_float (times_data f) ≡ false
unfolding times_data
no_float_in_times f =
    rw (no_float_in_histogram f.reply_times)
    (rw (no_float_in_histogram f.batch_times)
    (rw (no_float_in_batch_parts f.batch_parts)
    (rw (no_float_in_histogram f.saves.times) refl)))

no_float_in_folders : (folders : List FolderFigures) → items_have_float (items_of (map folder_data folders)) ≡ false
unfolding folder_data
no_float_in_folders [] = refl
no_float_in_folders (_ ∷ folders) = no_float_in_folders folders

no_float_in_all_folders : (x : Folders) → has_float (all_folders_data x) ≡ false
unfolding all_folders_data
no_float_in_all_folders x = no_float_in_folders (take x.count x.each)

pub no_float : (f : Figures) (folders : Folders) → has_float (figures_data f folders) ≡ false
unfolding figures_data connections_data limits_data server_data refusals_data keys_data batches_data memory_data saves_data all_commands_data
no_float f folders =
    rw (no_float_in_commands f.commands ALL_KINDS)
    (rw (no_float_in_all_folders folders)
    (rw (no_float_in_replicas f.replicas)
    (rw (no_float_in_times f) refl)))

no_float_in_sample : (s : Sample) → has_float (sample_data s) ≡ false
unfolding sample_data keys_data
no_float_in_sample s = rw (no_float_in_wholes s.replies) refl

no_float_in_samples : (samples : List Sample) → items_have_float (items_of (map sample_data samples)) ≡ false
no_float_in_samples [] = refl
no_float_in_samples (s ∷ samples) = rw (no_float_in_sample s) (no_float_in_samples samples)

pub no_float_in_history : (samples : List Sample) → has_float (history_data samples) ≡ false
no_float_in_history samples = no_float_in_samples samples
