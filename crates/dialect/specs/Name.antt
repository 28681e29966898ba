-- The names of commands.
use Rattle.std.specs.Prelude.{ℕ, List, ◌||◌, if◌then◌else◌, Option, Some, None, codes, bytes_eq}
use Rattle.std.specs.Option.{option_map_or, option_or}
use Rattle.proto.specs.Line.{verb_of}
use Rattle.dialect.specs.declared.meta.Meta.TheVariants as meta
use Rattle.dialect.specs.declared.line.Name.{Name}
use Rattle.dialect.specs.declared.line.Name.TheVariants as name

-- the name of a command with keys, and no block
abbrev pub key_name_of : List ℕ → Option Name
key_name_of w =
    if bytes_eq w (codes "delete") then Some name.Delete
    else if bytes_eq w (codes "touch") then Some name.Touch
    else if bytes_eq w (codes "incr") then Some name.Incr
    else if bytes_eq w (codes "decr") then Some name.Decr
    else if bytes_eq w (codes "gat") then Some name.Gat
    else if bytes_eq w (codes "gats") then Some name.Gats
    else None

abbrev pub keyless_name_of : List ℕ → Option Name
keyless_name_of w =
    if bytes_eq w (codes "version") then Some name.Version
    else if bytes_eq w (codes "quit") then Some name.Quit
    else if bytes_eq w (codes "verbosity") then Some name.Verbosity
    else if bytes_eq w (codes "flush_all") then Some name.FlushAll
    else if bytes_eq w (codes "shutdown") then Some name.Shutdown
    else if bytes_eq w (codes "stats") then Some name.Stats
    else if bytes_eq w (codes "lru_crawler") then Some name.Crawler
    else if bytes_eq w (codes "GET") || bytes_eq w (codes "POST") then Some name.Http
    else None

-- the name of a meta command
abbrev pub meta_name_of : List ℕ → Option Name
meta_name_of w =
    if bytes_eq w (codes "mg") then Some (name.Meta meta.Get)
    else if bytes_eq w (codes "ms") then Some (name.Meta meta.Set)
    else if bytes_eq w (codes "md") then Some (name.Meta meta.Delete)
    else if bytes_eq w (codes "ma") then Some (name.Meta meta.Count)
    else if bytes_eq w (codes "mn") then Some name.MetaNoop
    else None

-- the command's name
abbrev pub name_of : List ℕ → Option Name
name_of w =
    if bytes_eq w (codes "get") then Some name.Get
    else if bytes_eq w (codes "gets") then Some name.Gets
    else if bytes_eq w (codes "cas") then Some name.Cas
    else option_map_or (λ verb. Some (name.Store verb)) (verb_of w) (option_or (key_name_of w) (option_or (keyless_name_of w) (meta_name_of w)))
