-- What `stats` and `stats settings` show of the figures.
use Rattle.std.specs.Prelude.{ℕ, ◌-◌, List, [], ◌∷◌, ◌++◌, flat_map, codes, decimal}
use Rattle.figures.specs.Count.{sum_of}
use Rattle.figures.specs.Commands.{kind_count}
use Rattle.figures.specs.Refusal.{refusal_count}
use Rattle.figures.specs.declared.commands.Commands.{Commands}
use Rattle.figures.specs.declared.figures.Figures.{Figures}
use Rattle.figures.specs.declared.kind.Kind.{Kind}
use Rattle.figures.specs.declared.kind.Kind.TheVariants as kind
use Rattle.figures.specs.declared.outcome.Outcome.TheVariants as outcome
use Rattle.figures.specs.declared.refusal.Refusal.TheVariants as refusal

-- ---- lines

-- the line of a name and its value
unfoldable pub stat_line : List ℕ → List ℕ → List ℕ
stat_line name value = codes "STAT " ++ (name ++ (32 ∷ (value ++ codes "\r\n")))

-- lines of names and words
abbrev pub word_lines : List (List ℕ × List ℕ) → List ℕ
word_lines = flat_map (λ (row : List ℕ × List ℕ). stat_line row.0 row.1)

-- lines of names and numbers
abbrev pub number_lines : List (List ℕ × ℕ) → List ℕ
number_lines = flat_map (λ (row : List ℕ × ℕ). stat_line row.0 (decimal row.1))

-- ---- stats

unfoldable pub process_numbers : Figures → List (List ℕ × ℕ)
process_numbers f =
    (codes "pid", f.process.id)
    ∷ (codes "uptime", f.uptime_seconds)
    ∷ (codes "time", sum_of f.process.started f.uptime_seconds)
    ∷ (codes "pointer_size", 64)
    ∷ (codes "threads", 2)
    ∷ []

unfoldable pub connection_numbers : Figures → List (List ℕ × ℕ)
connection_numbers f =
    (codes "max_connections", f.limits.connections)
    ∷ (codes "curr_connections", f.connections.open)
    ∷ (codes "total_connections", f.connections.accepted)
    ∷ (codes "rejected_connections", f.connections.refused)
    ∷ (codes "bytes_read", f.connections.bytes_read)
    ∷ (codes "bytes_written", f.connections.bytes_written)
    ∷ []

abbrev pub server_lines : Figures → List ℕ
server_lines f = stat_line (codes "version") (codes "1.6.18-eve-1") ++ (number_lines (process_numbers f) ++ number_lines (connection_numbers f))

-- the storage commands of this kind that were answered
unfoldable pub storage_count : Commands → Kind → ℕ
storage_count cs k = sum_of (sum_of (sum_of (kind_count cs k outcome.Stored) (kind_count cs k outcome.NotStored)) (sum_of (kind_count cs k outcome.Exists) (kind_count cs k outcome.NotFound))) (kind_count cs k outcome.TooLarge)

unfoldable pub all_stored : Commands → ℕ
all_stored cs = sum_of (sum_of (sum_of (storage_count cs kind.Set) (storage_count cs kind.Add)) (sum_of (storage_count cs kind.Append) (storage_count cs kind.Prepend))) (sum_of (storage_count cs kind.Replace) (storage_count cs kind.Cas))

unfoldable pub get_numbers : Figures → List (List ℕ × ℕ)
get_numbers f =
    (codes "cmd_get", f.keys.asked)
    ∷ (codes "cmd_set", all_stored f.commands)
    ∷ (codes "cmd_flush", 0)
    ∷ (codes "get_hits", f.keys.found)
    ∷ (codes "get_misses", f.keys.asked - f.keys.found)
    ∷ []

unfoldable pub touch_numbers : Commands → List (List ℕ × ℕ)
touch_numbers cs =
    (codes "cmd_touch", sum_of (kind_count cs kind.Touch outcome.Touched) (kind_count cs kind.Touch outcome.NotFound))
    ∷ (codes "touch_hits", kind_count cs kind.Touch outcome.Touched)
    ∷ (codes "touch_misses", kind_count cs kind.Touch outcome.NotFound)
    ∷ []

unfoldable pub counter_numbers : Commands → List (List ℕ × ℕ)
counter_numbers cs =
    (codes "delete_misses", kind_count cs kind.Delete outcome.NotFound)
    ∷ (codes "delete_hits", kind_count cs kind.Delete outcome.Deleted)
    ∷ (codes "incr_misses", kind_count cs kind.Incr outcome.NotFound)
    ∷ (codes "incr_hits", kind_count cs kind.Incr outcome.Counted)
    ∷ (codes "decr_misses", kind_count cs kind.Decr outcome.NotFound)
    ∷ (codes "decr_hits", kind_count cs kind.Decr outcome.Counted)
    ∷ []

unfoldable pub cas_numbers : Commands → List (List ℕ × ℕ)
cas_numbers cs =
    (codes "cas_misses", kind_count cs kind.Cas outcome.NotFound)
    ∷ (codes "cas_hits", kind_count cs kind.Cas outcome.Stored)
    ∷ (codes "cas_badval", kind_count cs kind.Cas outcome.Exists)
    ∷ []

abbrev pub command_lines : Figures → List ℕ
command_lines f = number_lines (get_numbers f) ++ (number_lines (touch_numbers f.commands) ++ (number_lines (counter_numbers f.commands) ++ number_lines (cas_numbers f.commands)))

unfoldable pub memory_numbers : Figures → List (List ℕ × ℕ)
memory_numbers f =
    (codes "store_too_large", refusal_count f.refusals refusal.Large)
    ∷ (codes "store_no_memory", refusal_count f.refusals refusal.Full)
    ∷ (codes "limit_maxbytes", f.limits.item_bytes)
    ∷ (codes "bytes", f.memory.item_bytes)
    ∷ (codes "curr_items", f.memory.items)
    ∷ (codes "evictions", 0)
    ∷ []

-- what `stats` gives
unfoldable pub stats_text : Figures → List ℕ
stats_text f = server_lines f ++ (command_lines f ++ (number_lines (memory_numbers f) ++ codes "END\r\n"))

-- ---- stats settings

unfoldable pub setting_numbers : Figures → List (List ℕ × ℕ)
setting_numbers f =
    (codes "maxbytes", f.limits.item_bytes)
    ∷ (codes "maxconns", f.limits.connections)
    ∷ (codes "item_size_max", 1048576)
    ∷ []

unfoldable pub setting_words : List (List ℕ × List ℕ)
setting_words =
    (codes "evictions", codes "off")
    ∷ (codes "cas_enabled", codes "yes")
    ∷ (codes "flush_enabled", codes "no")
    ∷ (codes "dump_enabled", codes "no")
    ∷ []

-- what `stats settings` gives
unfoldable pub settings_text : Figures → List ℕ
settings_text f = number_lines (setting_numbers f) ++ (word_lines setting_words ++ codes "END\r\n")
