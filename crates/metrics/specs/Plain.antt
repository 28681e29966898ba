-- The metrics that have one value.
use Rattle.std.specs.Prelude.{ℕ, List, codes}
use Rattle.figures.specs.declared.figures.Figures.{Figures}
use Rattle.metrics.specs.declared.plain.Plain.{Plain}
use Rattle.metrics.specs.declared.plain.Plain.TheVariants as plain
use Rattle.metrics.specs.declared.metric_type.MetricType.{MetricType}
use Rattle.metrics.specs.declared.metric_type.MetricType.TheVariants.{Counter, Gauge}

abbrev pub plain_name : Plain → List ℕ
plain_name plain.UptimeSeconds = codes "eve_uptime_seconds"
plain_name plain.StartSeconds = codes "process_start_time_seconds"
plain_name plain.ConnectionsOpen = codes "eve_connections_open"
plain_name plain.ConnectionsLimit = codes "eve_connections_limit"
plain_name plain.ConnectionsAccepted = codes "eve_connections_accepted_total"
plain_name plain.ConnectionsRefused = codes "eve_connections_refused_total"
plain_name plain.ConnectionsIdle = codes "eve_idle_connections_closed_total"
plain_name plain.AcceptFailures = codes "eve_accept_failures_total"
plain_name plain.BytesRead = codes "eve_bytes_read_total"
plain_name plain.BytesWritten = codes "eve_bytes_written_total"
plain_name plain.KeysAsked = codes "eve_keys_asked_total"
plain_name plain.KeysFound = codes "eve_keys_found_total"
plain_name plain.Batches = codes "eve_batches_total"
plain_name plain.BatchRequests = codes "eve_batch_requests_total"
plain_name plain.Commits = codes "eve_commits_total"
plain_name plain.Rollbacks = codes "eve_rollbacks_total"
plain_name plain.Epoch = codes "eve_epoch"
plain_name plain.View = codes "eve_view"
plain_name plain.StateNumber = codes "eve_state_number"
plain_name plain.Suspicions = codes "eve_suspicions_total"
plain_name plain.Saves = codes "eve_saves_total"
plain_name plain.SaveFailures = codes "eve_save_failures_total"
plain_name plain.SaveWaiting = codes "eve_save_waiting_messages"
plain_name plain.SaveFailing = codes "eve_save_failing"
plain_name plain.DataBytes = codes "eve_data_bytes"
plain_name plain.Folders = codes "eve_folders"
plain_name plain.CurrentFolders = codes "eve_current_folders"
plain_name plain.Items = codes "eve_items"
plain_name plain.ItemBytes = codes "eve_item_bytes"
plain_name plain.ItemBytesLimit = codes "eve_item_bytes_limit"
plain_name plain.ResidentMemory = codes "eve_resident_memory_bytes"
plain_name plain.Refusals = codes "eve_refusals_total"

abbrev pub plain_help : Plain → List ℕ
plain_help plain.UptimeSeconds = codes "Seconds since the start."
plain_help plain.StartSeconds = codes "The moment of the start in seconds since 1970, 0 if it is not known."
plain_help plain.ConnectionsOpen = codes "Connections that are open."
plain_help plain.ConnectionsLimit = codes "The most connections at once."
plain_help plain.ConnectionsAccepted = codes "Connections that were accepted."
plain_help plain.ConnectionsRefused = codes "Connections that were closed at once, at the limit on connections."
plain_help plain.ConnectionsIdle = codes "Connections that were closed since nothing happened on them."
plain_help plain.AcceptFailures = codes "Times that no connection could be accepted, as at the limit on descriptors."
plain_help plain.BytesRead = codes "Bytes read from clients."
plain_help plain.BytesWritten = codes "Bytes written to clients."
plain_help plain.KeysAsked = codes "Keys of get, gets, gat and gats."
plain_help plain.KeysFound = codes "Keys of get, gets, gat and gats that were found."
plain_help plain.Batches = codes "Batches that were cut."
plain_help plain.BatchRequests = codes "Requests that were answered, each once."
plain_help plain.Commits = codes "Batches that were committed."
plain_help plain.Rollbacks = codes "Rollbacks that were decided."
plain_help plain.Epoch = codes "The epoch. Each rollback raises it."
plain_help plain.View = codes "The view of the verifiers. Each change of the leader raises it."
plain_help plain.StateNumber = codes "The number of the last committed state."
plain_help plain.Suspicions = codes "Times that the leader was suspected."
plain_help plain.Saves = codes "Saves to disk that succeeded."
plain_help plain.SaveFailures = codes "Saves to disk that failed."
plain_help plain.SaveWaiting = codes "Messages to connections that wait for a save to disk."
plain_help plain.SaveFailing = codes "1 if the last save to disk failed, so that nothing is answered, else 0."
plain_help plain.DataBytes = codes "Bytes of the files in which all is saved, 0 if nothing is."
plain_help plain.Folders = codes "Folders in which all is saved, each with a copy; 0 if nothing is."
plain_help plain.CurrentFolders = codes "Folders whose copy is of the last save."
plain_help plain.Items = codes "Items in one state."
plain_help plain.ItemBytes = codes "Bytes of the keys and values of all items in one state."
plain_help plain.ItemBytesLimit = codes "The most bytes of keys and values that may be stored, 0 if there is no limit."
plain_help plain.ResidentMemory = codes "Resident memory of the process, 0 if it is not known."
plain_help plain.Refusals = codes "Times that the service was refused memory and left something undone."

abbrev pub plain_type : Plain → MetricType
plain_type plain.UptimeSeconds = Gauge
plain_type plain.StartSeconds = Gauge
plain_type plain.ConnectionsOpen = Gauge
plain_type plain.ConnectionsLimit = Gauge
plain_type plain.ConnectionsAccepted = Counter
plain_type plain.ConnectionsRefused = Counter
plain_type plain.ConnectionsIdle = Counter
plain_type plain.AcceptFailures = Counter
plain_type plain.BytesRead = Counter
plain_type plain.BytesWritten = Counter
plain_type plain.KeysAsked = Counter
plain_type plain.KeysFound = Counter
plain_type plain.Batches = Counter
plain_type plain.BatchRequests = Counter
plain_type plain.Commits = Counter
plain_type plain.Rollbacks = Counter
plain_type plain.Epoch = Gauge
plain_type plain.View = Gauge
plain_type plain.StateNumber = Gauge
plain_type plain.Suspicions = Counter
plain_type plain.Saves = Counter
plain_type plain.SaveFailures = Counter
plain_type plain.SaveWaiting = Gauge
plain_type plain.SaveFailing = Gauge
plain_type plain.DataBytes = Gauge
plain_type plain.Folders = Gauge
plain_type plain.CurrentFolders = Gauge
plain_type plain.Items = Gauge
plain_type plain.ItemBytes = Gauge
plain_type plain.ItemBytesLimit = Gauge
plain_type plain.ResidentMemory = Gauge
plain_type plain.Refusals = Counter

abbrev pub plain_value : Figures → Plain → ℕ
plain_value f plain.UptimeSeconds = f.uptime_seconds
plain_value f plain.StartSeconds = f.process.started
plain_value f plain.ConnectionsOpen = f.connections.open
plain_value f plain.ConnectionsLimit = f.limits.connections
plain_value f plain.ConnectionsAccepted = f.connections.accepted
plain_value f plain.ConnectionsRefused = f.connections.refused
plain_value f plain.ConnectionsIdle = f.connections.idle
plain_value f plain.AcceptFailures = f.connections.failed
plain_value f plain.BytesRead = f.connections.bytes_read
plain_value f plain.BytesWritten = f.connections.bytes_written
plain_value f plain.KeysAsked = f.keys.asked
plain_value f plain.KeysFound = f.keys.found
plain_value f plain.Batches = f.batches.cut
plain_value f plain.BatchRequests = f.batches.requests
plain_value f plain.Commits = f.batches.committed
plain_value f plain.Rollbacks = f.batches.rolled_back
plain_value f plain.Epoch = f.replicas.epoch
plain_value f plain.View = f.replicas.view
plain_value f plain.StateNumber = f.replicas.number
plain_value f plain.Suspicions = f.replicas.suspicions
plain_value f plain.Saves = f.saves.made
plain_value f plain.SaveFailures = f.saves.failed
plain_value f plain.SaveWaiting = f.saves.waiting
plain_value f plain.SaveFailing = f.saves.failing
plain_value f plain.DataBytes = f.saves.bytes
plain_value f plain.Folders = f.saves.folders
plain_value f plain.CurrentFolders = f.saves.current_folders
plain_value f plain.Items = f.memory.items
plain_value f plain.ItemBytes = f.memory.item_bytes
plain_value f plain.ItemBytesLimit = f.limits.item_bytes
plain_value f plain.ResidentMemory = f.memory.resident_bytes
plain_value f plain.Refusals = f.memory.refusals
