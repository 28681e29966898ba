-- What a line asks by itself. A line is given without the byte 10 that ends it.
use Rattle.std.specs.Prelude.{ℕ, ◌+◌, List, [], ◌∷◌, take, Bool, true, false, ◌&&◌, ◌||◌, nat_lt, if◌then◌else◌, ℤ, Option, Some, None, codes, bytes_eq}
use Rattle.std.specs.List.{list_any}
use Rattle.std.specs.Option.{option_map_or}
use Rattle.proto.specs.Line.{◌>>=◌, key_of, counting}
use Rattle.proto.specs.declared.block.TheConstants.{MOST_BLOCK_BYTES}
use Rattle.proto.specs.declared.command.StoreVerb.{StoreVerb}
use Rattle.proto.specs.declared.command.StoreVerb.TheVariants as verb
use Rattle.proto.specs.declared.command.Command.TheVariants as command
use Rattle.proto.specs.declared.command.Update.{Update}
use Rattle.proto.specs.declared.command.Update.TheVariants as update
use Rattle.proto.specs.declared.line.Header.{Header}
use Rattle.proto.specs.declared.line.Kind.{Kind}
use Rattle.proto.specs.declared.line.Kind.TheVariants as kind
use Rattle.dialect.specs.Meta.{meta_line}
use Rattle.dialect.specs.Number.{unsigned_of, flags_of, exptime_of, block_size_of}
use Rattle.dialect.specs.Stats.{stats_notice, crawler_notice}
use Rattle.dialect.specs.declared.turn.Notice.{Notice}
use Rattle.dialect.specs.declared.turn.Notice.TheVariants as notice
use Rattle.dialect.specs.declared.turn.Show.{Show}
use Rattle.dialect.specs.declared.turn.Show.TheVariants as show
use Rattle.dialect.specs.declared.turn.Turn.{Turn}
use Rattle.dialect.specs.declared.turn.Turn.TheVariants.{Ask, Say}
use Rattle.dialect.specs.declared.line.Name.{Name}
use Rattle.dialect.specs.declared.line.Name.TheVariants as name
use Rattle.dialect.specs.declared.line.ReadVerb.TheVariants as reading
use Rattle.dialect.specs.declared.line.Opening.{Opening}
use Rattle.dialect.specs.declared.line.Line.{Line}
use Rattle.dialect.specs.declared.line.Line.TheVariants.{Gives, Closes, Reads, Opens, Skips}

-- whether the last word is noreply; quiet if there is none
abbrev pub ends_quiet : Bool → List (List ℕ) → Bool
ends_quiet quiet [] = quiet
ends_quiet quiet (w ∷ ws) = ends_quiet (bytes_eq w (codes "noreply")) ws

-- the last word is noreply
abbrev pub says_noreply : List (List ℕ) → Bool
says_noreply ws = ends_quiet false ws

-- a text, if the line does not say noreply
abbrev pub said : Bool → Notice → Option Turn
said quiet notice = if quiet then None else Some (Say notice)

abbrev pub says_notice : Bool → Notice → Line
says_notice quiet notice = Gives (said quiet notice)

-- what is shown of the reply to a command that may be quiet
abbrev pub shown : Bool → Show
shown quiet = if quiet then show.Quiet else show.Whole

abbrev pub asks_update : Bool → Update → Line
asks_update quiet u = Gives (Some (Ask (command.Update u) (shown quiet)))

-- no word more than one
abbrev pub is_end : List (List ℕ) → Bool
is_end [] = true
is_end (w ∷ []) = true
is_end (w ∷ v ∷ ws) = false

-- a set that fails must not leave what was there
abbrev pub removes : Kind → Bool
removes (kind.Plain verb.Set) = true
removes (kind.Plain verb.Add) = false
removes (kind.Plain verb.Replace) = false
removes (kind.Plain verb.Append) = false
removes (kind.Plain verb.Prepend) = false
removes (kind.Cas unique) = false

-- the turn of a storage line whose block is above the limit
abbrev pub too_large : Header → Option Turn
too_large h =
    if removes h.kind then Some (Ask (command.Update (update.Delete h.key)) (if h.quiet then show.Quiet else show.Instead notice.TooLarge))
    else said h.quiet notice.TooLarge

-- the reply to a storage line is shown, if the line does not say noreply
abbrev pub opened_by : Header → Opening
opened_by h = record { header = h; show = shown h.quiet }

-- a storage line whose words are correct, if all but its size are
abbrev pub sized : Bool → ℕ → Option Header → Line
sized quiet size None = Skips (size + 2) (said quiet notice.BadFormat)
sized quiet size (Some h) = if nat_lt MOST_BLOCK_BYTES size then Skips (size + 2) (too_large h) else Opens (opened_by h)

-- a storage line. If its size can be read its block is skipped, whatever else is bad: a value is not read as commands.
abbrev pub storage : Bool → Option ℕ → (ℕ → Option Header) → Line
storage quiet None header = says_notice quiet notice.BadFormat
storage quiet (Some size) header = sized quiet size (header size)

-- <key> <flags> <exptime>, and what is known of the rest
abbrev pub header_of : Bool → Option Kind → List ℕ → List ℕ → List ℕ → ℕ → Option Header
header_of quiet k w f e size = do
  kind ← k
  flags ← flags_of f
  exptime ← exptime_of e
  key ← key_of w
  Some (record { kind = kind; key = key; flags = flags; exptime = exptime; size = size; quiet = quiet })

-- <key> <flags> <exptime> <bytes> [noreply]
abbrev pub store_line : StoreVerb → Bool → List (List ℕ) → Line
store_line v quiet (k ∷ f ∷ e ∷ n ∷ last) =
    if is_end last then storage quiet (block_size_of n) (header_of quiet (Some (kind.Plain v)) k f e)
    else says_notice quiet notice.UnknownName
store_line v quiet _ = says_notice quiet notice.UnknownName

-- a unique
abbrev pub cas_kind : List ℕ → Option Kind
cas_kind u = do
  unique ← unsigned_of u
  Some (kind.Cas unique)

-- <key> <flags> <exptime> <bytes> <unique> [noreply]
abbrev pub cas_line : Bool → List (List ℕ) → Line
cas_line quiet (k ∷ f ∷ e ∷ n ∷ u ∷ last) =
    if is_end last then storage quiet (block_size_of n) (header_of quiet (cas_kind u) k f e)
    else says_notice quiet notice.UnknownName
cas_line quiet _ = says_notice quiet notice.UnknownName

-- what may follow the key of a delete: a time of 0, and noreply
abbrev pub is_delete_end : List (List ℕ) → Bool
is_delete_end [] = true
is_delete_end (w ∷ []) = bytes_eq w (codes "0") || bytes_eq w (codes "noreply")
is_delete_end (w ∷ v ∷ []) = bytes_eq w (codes "0") && bytes_eq v (codes "noreply")
is_delete_end (w ∷ v ∷ u ∷ ws) = false

-- an update of the key that the word is
abbrev pub on_key : Bool → List ℕ → (List ℕ → Line) → Line
on_key quiet w line = option_map_or line (key_of w) (says_notice quiet notice.BadFormat)

-- a key, with the words after it
abbrev pub delete_of : Bool → List ℕ → List (List ℕ) → Line
delete_of quiet k last =
    if is_delete_end last then on_key quiet k (λ key. asks_update quiet (update.Delete key))
    else says_notice quiet notice.BadDelete

-- <key> [0] [noreply]. A key that is `noreply` says nothing of the reply.
abbrev pub delete_line : List (List ℕ) → Line
delete_line [] = says_notice false notice.UnknownName
delete_line (k ∷ last) = delete_of (says_noreply last) k last

-- <key> <exptime> [noreply]
abbrev pub touch_line : Bool → List (List ℕ) → Line
touch_line quiet (k ∷ e ∷ last) =
    if is_end last then on_key quiet k (λ key. option_map_or (λ exptime. asks_update quiet (update.Touch key exptime)) (exptime_of e) (says_notice quiet notice.BadExptime))
    else says_notice quiet notice.UnknownName
touch_line quiet _ = says_notice quiet notice.UnknownName

-- <key> <delta> [noreply]
abbrev pub delta_line : Bool → Bool → List (List ℕ) → Line
delta_line up quiet (k ∷ d ∷ last) =
    if is_end last then on_key quiet k (λ key. option_map_or (λ delta. asks_update quiet (counting up key delta)) (unsigned_of d) (says_notice quiet notice.BadDelta))
    else says_notice quiet notice.UnknownName
delta_line up quiet _ = says_notice quiet notice.UnknownName

-- <number> [noreply]
abbrev pub verbosity_line : Bool → List (List ℕ) → Line
verbosity_line quiet [] = says_notice quiet notice.UnknownName
verbosity_line quiet (n ∷ last) =
    if is_end last then says_notice quiet (option_map_or (λ level. notice.Done) (unsigned_of n) notice.BadFormat)
    else says_notice quiet notice.UnknownName

-- a request of HTTP names its version
abbrev pub is_http_version : List ℕ → Bool
is_http_version w = bytes_eq (take 5 w) (codes "HTTP/")

-- an exptime, and keys
abbrev pub timed_line : (ℤ → Line) → List (List ℕ) → Line
timed_line read [] = says_notice false notice.UnknownName
timed_line read (e ∷ ks) = option_map_or read (exptime_of e) (says_notice false notice.BadExptime)

-- the words after a command's name, and whether the last of them is noreply
abbrev pub line_of : Name → Bool → List (List ℕ) → Line
line_of (name.Store v) quiet ws = store_line v quiet ws
line_of name.Cas quiet ws = cas_line quiet ws
line_of name.Get quiet ws = Reads reading.Get
line_of name.Gets quiet ws = Reads reading.Gets
line_of name.Gat quiet ws = timed_line (λ exptime. Reads (reading.Gat exptime)) ws
line_of name.Gats quiet ws = timed_line (λ exptime. Reads (reading.Gats exptime)) ws
line_of name.Delete quiet ws = delete_line ws
line_of name.Touch quiet ws = touch_line quiet ws
line_of name.Incr quiet ws = delta_line true quiet ws
line_of name.Decr quiet ws = delta_line false quiet ws
line_of name.Version quiet ws = says_notice false notice.Version
line_of name.Quit quiet ws = Closes notice.Silent
line_of name.Verbosity quiet ws = verbosity_line quiet ws
line_of name.FlushAll quiet ws = says_notice quiet notice.FlushRefused
line_of name.Shutdown quiet ws = says_notice quiet notice.ShutdownRefused
line_of name.MetaNoop quiet ws = says_notice false notice.MetaNoop
line_of name.Stats quiet ws = says_notice false (stats_notice ws)
line_of name.Crawler quiet ws = says_notice false (crawler_notice ws)
line_of (name.Meta m) quiet ws = meta_line m ws
line_of name.Http quiet ws = if list_any is_http_version ws then Closes notice.Http else says_notice false notice.UnknownName
