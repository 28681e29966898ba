-- What `stats` and the dumps of keys are answered.
use Rattle.std.specs.Prelude.{ℕ, List, [], ◌∷◌, ◌||◌, if◌then◌else◌, codes, bytes_eq}
use Rattle.dialect.specs.declared.stats.Report.{Report}
use Rattle.dialect.specs.declared.stats.Report.TheVariants as report
use Rattle.dialect.specs.declared.turn.Notice.{Notice}
use Rattle.dialect.specs.declared.turn.Notice.TheVariants.{UnknownName, Stats}

-- the bytes of an answer, but for the figures and the settings, which are not known here
abbrev pub report_text : Report → List ℕ
report_text report.Figures = []
report_text report.Settings = []
report_text report.Reset = codes "RESET\r\n"
report_text report.Empty = codes "END\r\n"
report_text report.Slabs = codes "STAT active_slabs 0\r\nSTAT total_malloced 0\r\nEND\r\n"
report_text report.Sizes = codes "STAT sizes_status disabled\r\nEND\r\n"
report_text report.Detail = codes "OK\r\n"
report_text report.DetailUsage = codes "CLIENT_ERROR usage: stats detail on|off|dump\r\n"
report_text report.DumpRefused = codes "CLIENT_ERROR stats cachedump not allowed\r\n"
report_text report.MetadumpRefused = codes "ERROR metadump not allowed\r\n"

-- `stats detail`, with the words after it
abbrev pub detail_notice : List (List ℕ) → Notice
detail_notice [] = Stats report.DetailUsage
detail_notice (w ∷ ws) =
    if bytes_eq w (codes "on") || bytes_eq w (codes "off") then Stats report.Detail
    else if bytes_eq w (codes "dump") then Stats report.Empty
    else Stats report.DetailUsage

-- `stats` with another word
abbrev pub notice_of : List ℕ → Notice
notice_of w =
    if bytes_eq w (codes "settings") then Stats report.Settings
    else if bytes_eq w (codes "reset") then Stats report.Reset
    else if bytes_eq w (codes "items") || bytes_eq w (codes "conns") then Stats report.Empty
    else if bytes_eq w (codes "slabs") then Stats report.Slabs
    else if bytes_eq w (codes "sizes") then Stats report.Sizes
    else if bytes_eq w (codes "cachedump") then Stats report.DumpRefused
    else UnknownName

-- `stats`, with the words after it
abbrev pub stats_notice : List (List ℕ) → Notice
stats_notice [] = Stats report.Figures
stats_notice (w ∷ ws) = if bytes_eq w (codes "detail") then detail_notice ws else notice_of w

-- `lru_crawler`, with the words after it
abbrev pub crawler_notice : List (List ℕ) → Notice
crawler_notice [] = UnknownName
crawler_notice (w ∷ ws) = if bytes_eq w (codes "metadump") then Stats report.MetadumpRefused else UnknownName
