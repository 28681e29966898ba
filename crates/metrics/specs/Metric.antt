-- The metrics.
use Rattle.std.specs.Prelude.{ℕ, List, codes}
use Rattle.metrics.specs.declared.metric.Metric.{Metric}
use Rattle.metrics.specs.declared.metric.Metric.TheVariants as metric
use Rattle.metrics.specs.declared.metric_type.MetricType.{MetricType}
use Rattle.metrics.specs.declared.metric_type.MetricType.TheVariants.{Counter, Gauge, Histogram}
use Rattle.metrics.specs.Plain.{plain_name, plain_help, plain_type}

abbrev pub metric_name : Metric → List ℕ
metric_name (metric.Plain p) = plain_name p
metric_name metric.Commands = codes "eve_commands_total"
metric_name metric.LinesRefused = codes "eve_lines_refused_total"
metric_name metric.NodeUp = codes "eve_node_up"
metric_name metric.NodeStops = codes "eve_node_stops_total"
metric_name metric.FolderCurrent = codes "eve_folder_current"
metric_name metric.FolderSaves = codes "eve_folder_saves_total"
metric_name metric.FolderFailures = codes "eve_folder_save_failures_total"
metric_name metric.FolderSaved = codes "eve_folder_last_save_timestamp_seconds"
metric_name metric.FolderBytes = codes "eve_folder_bytes"
metric_name metric.ReplySeconds = codes "eve_reply_seconds"
metric_name metric.BatchSeconds = codes "eve_batch_seconds"
metric_name metric.BatchWaitSeconds = codes "eve_batch_wait_seconds"
metric_name metric.BatchExecuteSeconds = codes "eve_batch_execute_seconds"
metric_name metric.BatchAgreeSeconds = codes "eve_batch_agree_seconds"
metric_name metric.BatchCommitSeconds = codes "eve_batch_commit_seconds"
metric_name metric.SaveSeconds = codes "eve_save_seconds"

abbrev pub metric_help : Metric → List ℕ
metric_help (metric.Plain p) = plain_help p
metric_help metric.Commands = codes "Commands that were answered, by command and outcome."
metric_help metric.LinesRefused = codes "Lines that were answered by an error or closed the connection, by why."
metric_help metric.NodeUp = codes "Whether the executor or verifier is up."
metric_help metric.NodeStops = codes "Times that the executor or verifier was found down."
metric_help metric.FolderCurrent = codes "Whether the copy in the folder is of the last save."
metric_help metric.FolderSaves = codes "Saves that were made in the folder."
metric_help metric.FolderFailures = codes "Saves that were not made in the folder."
metric_help metric.FolderSaved = codes "The moment of the last save in the folder in seconds since 1970, 0 if none was seen."
metric_help metric.FolderBytes = codes "Bytes of the files in the folder."
metric_help metric.ReplySeconds = codes "Time from when bytes were read to when their replies were written."
metric_help metric.BatchSeconds = codes "Time of a round of the service that answered commands."
metric_help metric.BatchWaitSeconds = codes "Time that a command waited for a proxy to ask it."
metric_help metric.BatchExecuteSeconds = codes "Time in a round while executors ran batches."
metric_help metric.BatchAgreeSeconds = codes "Time in a round from there to the first decree."
metric_help metric.BatchCommitSeconds = codes "Time in a round from there until all letters had come."
metric_help metric.SaveSeconds = codes "Time of a save to disk, also of one that failed."

abbrev pub metric_type_of : Metric → MetricType
metric_type_of (metric.Plain p) = plain_type p
metric_type_of metric.Commands = Counter
metric_type_of metric.LinesRefused = Counter
metric_type_of metric.NodeUp = Gauge
metric_type_of metric.NodeStops = Counter
metric_type_of metric.FolderCurrent = Gauge
metric_type_of metric.FolderSaves = Counter
metric_type_of metric.FolderFailures = Counter
metric_type_of metric.FolderSaved = Gauge
metric_type_of metric.FolderBytes = Gauge
metric_type_of metric.ReplySeconds = Histogram
metric_type_of metric.BatchSeconds = Histogram
metric_type_of metric.BatchWaitSeconds = Histogram
metric_type_of metric.BatchExecuteSeconds = Histogram
metric_type_of metric.BatchAgreeSeconds = Histogram
metric_type_of metric.BatchCommitSeconds = Histogram
metric_type_of metric.SaveSeconds = Histogram
