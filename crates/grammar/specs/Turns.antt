-- Turns of either grammar.
use Rattle.std.specs.Prelude.{◌≡◌, ℕ, Bool, true, false, List, [], ◌∷◌}
use Rattle.proto.specs.declared.turn.Turn.{Turn as ProfileTurn}
use Rattle.proto.specs.declared.turn.Turn.TheVariants as profile
use Rattle.proto.specs.Text as profile_texts
use Rattle.dialect.specs.declared.stats.Report.{Report}
use Rattle.dialect.specs.declared.stats.Report.TheVariants as report
use Rattle.dialect.specs.declared.turn.Notice.{Notice as MemcachedNotice}
use Rattle.dialect.specs.declared.turn.Notice.TheVariants as memcached_notice
use Rattle.dialect.specs.declared.turn.Show.{Show}
use Rattle.dialect.specs.declared.turn.Show.TheVariants as show
use Rattle.dialect.specs.declared.turn.Turn.{Turn as MemcachedTurn}
use Rattle.dialect.specs.declared.turn.Turn.TheVariants as memcached
use Rattle.dialect.specs.Text as memcached_texts
use Rattle.figures.specs.declared.figures.Figures.{Figures}
use Rattle.grammar.specs.Stats.{stats_text, settings_text}
use Rattle.grammar.specs.declared.turn.Notice.{Notice}
use Rattle.grammar.specs.declared.turn.Notice.TheVariants as notice
use Rattle.grammar.specs.declared.turn.Turn.{Turn}
use Rattle.grammar.specs.declared.turn.Turn.TheVariants.{Ask, Say, Close}

-- the bytes of a notice
abbrev pub said_text : Notice → List ℕ
said_text (notice.Profile n) = profile_texts.notice_text n
said_text (notice.Memcached n) = memcached_texts.notice_text n
said_text (notice.Stats text) = text

-- the reply is left out of what the client is given
abbrev pub is_left_out : Show → Bool
is_left_out show.Whole = false
is_left_out show.Quiet = true
is_left_out show.Items = false
is_left_out (show.Instead n) = false
is_left_out (show.Meta m) = false

-- what is shown of the reply to a command of the profile, which may say noreply
abbrev pub profile_show : Bool → Show
profile_show true = show.Quiet
profile_show false = show.Whole

abbrev pub profile_turn : ProfileTurn → Turn
profile_turn (profile.Ask command quiet) = Ask command (profile_show quiet)
profile_turn (profile.Say n) = Say (notice.Profile n)
profile_turn (profile.Close n) = Close (notice.Profile n)

-- what is said of these figures
abbrev pub report_with : Figures → Report → Notice
report_with f report.Figures = notice.Stats (stats_text f)
report_with f report.Settings = notice.Stats (settings_text f)
report_with f r = notice.Memcached (memcached_notice.Stats r)

-- a notice of memcached's dialect, if it is about these figures
abbrev pub said_with : Figures → MemcachedNotice → Notice
said_with f (memcached_notice.Stats r) = report_with f r
said_with f n = notice.Memcached n

abbrev pub turn_with : Figures → MemcachedTurn → Turn
turn_with f (memcached.Ask command s) = Ask command s
turn_with f (memcached.Say n) = Say (said_with f n)
turn_with f (memcached.Close n) = Close (notice.Memcached n)

-- the turn of memcached's dialect. What it shows of figures is that of some figures
abbrev pub IsTurnWith : MemcachedTurn → Turn → Type 0
IsTurnWith t turn = (f : Figures) × (turn ≡ turn_with f t)

-- the turns, one for each
abbrev pub AreTurnsOf : List MemcachedTurn → List Turn → Type 0
AreTurnsOf [] turns = turns ≡ []
AreTurnsOf (t ∷ read) turns = (turn : Turn) × (more : List Turn) × (turns ≡ turn ∷ more) × IsTurnWith t turn × AreTurnsOf read more
