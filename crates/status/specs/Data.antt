-- The figures as JSON.
use Rattle.std.specs.Prelude.{ℕ, List, codes, map, take}
use Rattle.serde_json.specs.Data.{Data, number, unsigned, boolean, array, object, member, no_members, string}
use Rattle.serde_json.specs.View.{items_of}
use Rattle.figures.specs.declared.figures.Figures.{Figures}
use Rattle.figures.specs.declared.figures.Connections.{Connections}
use Rattle.figures.specs.declared.figures.Keys.{Keys}
use Rattle.figures.specs.declared.figures.Batches.{Batches}
use Rattle.figures.specs.declared.figures.BatchParts.{BatchParts}
use Rattle.figures.specs.declared.figures.Limits.{Limits}
use Rattle.figures.specs.declared.figures.Memory.{Memory}
use Rattle.figures.specs.declared.figures.Saves.{Saves}
use Rattle.figures.specs.declared.figures.TheConstants.{VERSION}
use Rattle.figures.specs.declared.figures.Replicas.{Replicas}
use Rattle.figures.specs.declared.commands.Commands.{Commands}
use Rattle.figures.specs.declared.histogram.Histogram.{Histogram}
use Rattle.figures.specs.declared.node.NodeFigures.{NodeFigures}
use Rattle.figures.specs.declared.kind.Kind.{Kind}
use Rattle.figures.specs.declared.kind.TheConstants.{ALL_KINDS}
use Rattle.figures.specs.declared.outcome.TheConstants.{ALL_OUTCOMES}
use Rattle.figures.specs.declared.refusal.Refusals.{Refusals}
use Rattle.figures.specs.declared.refusal.TheConstants.{ALL_REFUSALS}
use Rattle.figures.specs.Commands.{kind_count}
use Rattle.figures.specs.Refusal.{refusal_count}
use Rattle.metrics.specs.declared.folder.FolderFigures.{FolderFigures}
use Rattle.metrics.specs.declared.folder.Folders.{Folders}
use Rattle.status.specs.declared.history.Sample.{Sample}

-- a count
abbrev pub whole : ℕ → Data
whole n = number (unsigned n)

-- the counts of a list
abbrev pub wholes_data : List ℕ → Data
wholes_data counts = array (items_of (map whole counts))

unfoldable pub connections_data : Connections → Data
connections_data x = object (member (codes "accepted") (whole x.accepted)
    (member (codes "bytes_read") (whole x.bytes_read)
    (member (codes "bytes_written") (whole x.bytes_written)
    (member (codes "failed") (whole x.failed)
    (member (codes "idle") (whole x.idle)
    (member (codes "open") (whole x.open)
    (member (codes "refused") (whole x.refused) no_members)))))))

unfoldable pub limits_data : Limits → Data
limits_data x = object (member (codes "connections") (whole x.connections)
    (member (codes "idle_seconds") (whole x.idle_seconds)
    (member (codes "item_bytes") (whole x.item_bytes) no_members)))

-- the version and the limits
unfoldable pub server_data : Limits → Data
server_data limits = object (member (codes "limits") (limits_data limits)
    (member (codes "version") (string VERSION.now) no_members))

unfoldable pub keys_data : Keys → Data
keys_data x = object (member (codes "asked") (whole x.asked)
    (member (codes "found") (whole x.found) no_members))

unfoldable pub batches_data : Batches → Data
batches_data x = object (member (codes "committed") (whole x.committed)
    (member (codes "cut") (whole x.cut)
    (member (codes "requests") (whole x.requests)
    (member (codes "rolled_back") (whole x.rolled_back) no_members))))

unfoldable pub memory_data : Memory → Data
memory_data x = object (member (codes "item_bytes") (whole x.item_bytes)
    (member (codes "items") (whole x.items)
    (member (codes "refusals") (whole x.refusals)
    (member (codes "resident_bytes") (whole x.resident_bytes) no_members))))

unfoldable pub folder_data : FolderFigures → Data
folder_data x = object (member (codes "bytes") (whole x.bytes)
    (member (codes "current") (boolean x.is_current)
    (member (codes "failed") (whole x.failed)
    (member (codes "made") (whole x.made)
    (member (codes "saved_at") (whole x.saved_at) no_members)))))

abbrev pub folders_data : List FolderFigures → Data
folders_data folders = array (items_of (map folder_data folders))

-- those that are there
unfoldable pub all_folders_data : Folders → Data
all_folders_data x = folders_data (take x.count x.each)

-- saves, and what is known of each folder
unfoldable pub saves_data : Saves → Folders → Data
saves_data x folders = object (member (codes "bytes") (whole x.bytes)
    (member (codes "current_folders") (whole x.current_folders)
    (member (codes "each_folder") (all_folders_data folders)
    (member (codes "failed") (whole x.failed)
    (member (codes "failing") (whole x.failing)
    (member (codes "folders") (whole x.folders)
    (member (codes "made") (whole x.made)
    (member (codes "waiting") (whole x.waiting) no_members))))))))

-- how many lines were refused, in the order of ALL_REFUSALS
unfoldable pub refusals_data : Refusals → Data
refusals_data refusals = wholes_data (map (refusal_count refusals) ALL_REFUSALS)

-- how often a command of the kind had each outcome
unfoldable pub outcomes_data : Commands → Kind → Data
outcomes_data commands kind = wholes_data (map (kind_count commands kind) ALL_OUTCOMES)

-- the outcomes of each command, in the order of ALL_KINDS
abbrev pub commands_data : Commands → List Kind → Data
commands_data commands kinds = array (items_of (map (outcomes_data commands) kinds))

unfoldable pub node_data : NodeFigures → Data
node_data n = object (member (codes "stops") (whole n.stops)
    (member (codes "up") (boolean n.is_up) no_members))

abbrev pub nodes_data : List NodeFigures → Data
nodes_data nodes = array (items_of (map node_data nodes))

unfoldable pub histogram_data : Histogram → Data
histogram_data h = object (member (codes "counts") (wholes_data h.counts)
    (member (codes "sum") (whole h.sum) no_members))

unfoldable pub replicas_data : Replicas → Data
replicas_data r = object (member (codes "epoch") (whole r.epoch)
    (member (codes "executors") (nodes_data r.executors)
    (member (codes "members") (whole r.members)
    (member (codes "number") (whole r.number)
    (member (codes "suspicions") (whole r.suspicions)
    (member (codes "verifiers") (nodes_data r.verifiers)
    (member (codes "view") (whole r.view) no_members)))))))

unfoldable pub all_commands_data : Commands → Data
all_commands_data c = commands_data c ALL_KINDS

unfoldable pub batch_parts_data : BatchParts → Data
batch_parts_data p = object (member (codes "agree") (histogram_data p.agree)
    (member (codes "commit") (histogram_data p.commit)
    (member (codes "execute") (histogram_data p.execute)
    (member (codes "wait") (histogram_data p.wait) no_members))))

unfoldable pub times_data : Figures → Data
times_data f = object (member (codes "batch") (histogram_data f.batch_times)
    (member (codes "parts") (batch_parts_data f.batch_parts)
    (member (codes "reply") (histogram_data f.reply_times)
    (member (codes "save") (histogram_data f.saves.times) no_members))))

-- all figures, and what is known of each folder
unfoldable pub figures_data : Figures → Folders → Data
figures_data f folders = object (member (codes "batches") (batches_data f.batches)
    (member (codes "commands") (all_commands_data f.commands)
    (member (codes "connections") (connections_data f.connections)
    (member (codes "keys") (keys_data f.keys)
    (member (codes "memory") (memory_data f.memory)
    (member (codes "refusals") (refusals_data f.refusals)
    (member (codes "replicas") (replicas_data f.replicas)
    (member (codes "saves") (saves_data f.saves folders)
    (member (codes "server") (server_data f.limits)
    (member (codes "times") (times_data f)
    (member (codes "uptime_seconds") (whole f.uptime_seconds) no_members)))))))))))

-- what the page draws of one moment
unfoldable pub sample_data : Sample → Data
sample_data s = object (member (codes "keys") (keys_data s.keys)
    (member (codes "replies") (wholes_data s.replies)
    (member (codes "requests") (whole s.requests)
    (member (codes "uptime_seconds") (whole s.uptime_seconds) no_members))))

-- the samples, the oldest first
abbrev pub history_data : List Sample → Data
history_data samples = array (items_of (map sample_data samples))
