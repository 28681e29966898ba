-- What the lines of memcached's meta commands ask. `mn` is not among them: it asks nothing.
use Rattle.std.specs.Prelude.{ℕ, ◌+◌, List, [], ◌∷◌, ◌++◌, length, take, drop, Bool, true, false, ◌||◌, ◌==◌, nat_lt, if◌then◌else◌, ℤ, pos, neg_ℤ, Option, Some, None, Result, Ok, Err, codes, bytes_eq}
use Rattle.std.specs.List.{list_any, find, filter_map}
use Rattle.std.specs.Option.{option_map, option_map_or, option_or, unwrap_or}
use Rattle.proto.specs.Line.{◌>>=◌, key_of, counting}
use Rattle.proto.specs.declared.block.TheConstants.{MOST_BLOCK_BYTES}
use Rattle.proto.specs.declared.command.StoreVerb.{StoreVerb}
use Rattle.proto.specs.declared.command.StoreVerb.TheVariants as verb
use Rattle.proto.specs.declared.command.Command.{Command}
use Rattle.proto.specs.declared.command.Command.TheVariants as command
use Rattle.proto.specs.declared.command.Update.{Update}
use Rattle.proto.specs.declared.command.Update.TheVariants as update
use Rattle.proto.specs.declared.line.Kind.{Kind}
use Rattle.proto.specs.declared.line.Kind.TheVariants as kind
use Rattle.dialect.specs.Number.{unsigned_of, flags_of, exptime_of, block_size_of}
use Rattle.dialect.specs.declared.meta.TheConstants.{MOST_OPAQUE_BYTES}
use Rattle.dialect.specs.declared.meta.Meta.{Meta}
use Rattle.dialect.specs.declared.meta.Meta.TheVariants as meta
use Rattle.dialect.specs.declared.meta.Flag.{Flag}
use Rattle.dialect.specs.declared.meta.Flag.TheVariants as flag
use Rattle.dialect.specs.declared.meta.Field.{Field}
use Rattle.dialect.specs.declared.meta.Field.TheVariants as field
use Rattle.dialect.specs.declared.meta.MetaShow.{MetaShow}
use Rattle.dialect.specs.declared.turn.Notice.{Notice}
use Rattle.dialect.specs.declared.turn.Notice.TheVariants as notice
use Rattle.dialect.specs.declared.turn.Show.TheVariants as show
use Rattle.dialect.specs.declared.turn.Turn.TheVariants.{Ask, Say}
use Rattle.dialect.specs.declared.line.Opening.{Opening}
use Rattle.dialect.specs.declared.line.Line.{Line}
use Rattle.dialect.specs.declared.line.Line.TheVariants.{Gives, Opens, Skips}

-- Flags.

-- the letter of a flag, and what follows it
abbrev pub flag_letter : List ℕ → List ℕ
flag_letter w = take 1 w

abbrev pub flag_token : List ℕ → List ℕ
flag_token w = drop 1 w

-- a letter that asks for something to be shown, or to be left out
abbrev pub showing_flag : List ℕ → Option Flag
showing_flag l =
    if bytes_eq l (codes "v") then Some flag.Value
    else if bytes_eq l (codes "q") then Some flag.Quiet
    else if bytes_eq l (codes "k") then Some flag.Key
    else if bytes_eq l (codes "O") then Some flag.Opaque
    else if bytes_eq l (codes "f") then Some flag.ItemFlags
    else if bytes_eq l (codes "s") then Some flag.Size
    else if bytes_eq l (codes "c") then Some flag.Unique
    else None

-- a letter that says what is to be done
abbrev pub telling_flag : List ℕ → Option Flag
telling_flag l =
    if bytes_eq l (codes "T") then Some flag.Exptime
    else if bytes_eq l (codes "F") then Some flag.NewFlags
    else if bytes_eq l (codes "C") then Some flag.Compare
    else if bytes_eq l (codes "D") then Some flag.Delta
    else if bytes_eq l (codes "M") then Some flag.Mode
    else if bytes_eq l (codes "u") || bytes_eq l (codes "P") || bytes_eq l (codes "L") then Some flag.Ignored
    else None

-- what a letter says
abbrev pub flag_of : List ℕ → Option Flag
flag_of l = option_or (showing_flag l) (telling_flag l)

-- some flag has this letter
abbrev pub has : List ℕ → List (List ℕ) → Bool
has l ws = list_any (λ w. bytes_eq (flag_letter w) l) ws

-- what follows this letter, in the first flag that has it
abbrev pub token_behind : List ℕ → List (List ℕ) → Option (List ℕ)
token_behind l ws = option_map flag_token (find (λ w. bytes_eq (flag_letter w) l) ws)

-- What is wrong with flags.

-- how a fault of a flag is named: `md` and `ma` have one text for most
abbrev pub named : Meta → Notice → Notice
named meta.Get n = n
named meta.Set n = n
named meta.Delete n = notice.BadFlag
named meta.Count n = notice.BadFlag

-- something is missing
abbrev pub missing : {A : Type 0} → Option A → Notice → Option Notice
missing None n = Some n
missing (Some x) n = None

-- an `ma` can neither set an exptime nor name a unique
abbrev pub unless_count : Meta → Option Notice → Option Notice
unless_count meta.Get fault = fault
unless_count meta.Set fault = fault
unless_count meta.Delete fault = fault
unless_count meta.Count fault = Some notice.BadFlag

-- the mode of an `ms`
abbrev pub verb_of_mode : List ℕ → Option StoreVerb
verb_of_mode t =
    if bytes_eq t (codes "S") then Some verb.Set
    else if bytes_eq t (codes "E") then Some verb.Add
    else if bytes_eq t (codes "R") then Some verb.Replace
    else if bytes_eq t (codes "A") then Some verb.Append
    else if bytes_eq t (codes "P") then Some verb.Prepend
    else None

-- the mode of an `ma`: whether it counts up
abbrev pub direction_of : List ℕ → Option Bool
direction_of t =
    if bytes_eq t (codes "I") || bytes_eq t (codes "+") then Some true
    else if bytes_eq t (codes "D") || bytes_eq t (codes "-") then Some false
    else None

-- a mode of one byte
abbrev pub mode_fault : Meta → List ℕ → Option Notice
mode_fault meta.Get t = None
mode_fault meta.Set t = missing (verb_of_mode t) notice.BadSetMode
mode_fault meta.Delete t = None
mode_fault meta.Count t = missing (direction_of t) notice.BadCountMode

abbrev pub token_fault : Meta → Flag → List ℕ → Option Notice
token_fault m flag.Value t = None
token_fault m flag.Quiet t = None
token_fault m flag.Key t = None
token_fault m flag.Opaque t = if nat_lt MOST_OPAQUE_BYTES (length t) then Some notice.OpaqueTooLong else None
token_fault m flag.ItemFlags t = None
token_fault m flag.Size t = None
token_fault m flag.Unique t = unless_count m None
token_fault m flag.Exptime t = unless_count m (missing (exptime_of t) (named m notice.BadToken))
token_fault m flag.NewFlags t = missing (unsigned_of t) (named m notice.BadFormat)
token_fault m flag.Compare t = unless_count m (missing (unsigned_of t) (named m notice.BadToken))
token_fault m flag.Delta t = missing (unsigned_of t) (named m notice.BadDeltaValue)
token_fault m flag.Mode t = if length t == 1 then mode_fault m t else Some (named m notice.BadModeLength)
token_fault m flag.Ignored t = None

abbrev pub flag_fault : Meta → List ℕ → Option Notice
flag_fault m w = option_map_or (λ f. token_fault m f (flag_token w)) (flag_of (flag_letter w)) (Some (named m notice.UnknownFlag))

-- the first fault of some flags. No letter may come twice.
abbrev pub first_fault : Meta → List (List ℕ) → Option Notice
first_fault m [] = None
first_fault m (w ∷ ws) = if has (flag_letter w) ws then Some (named m notice.DuplicateFlag) else option_or (flag_fault m w) (first_fault m ws)

-- the key that a word is, if the flags have no fault
unfoldable pub checked : Meta → List ℕ → List (List ℕ) → Result (List ℕ) Notice
checked m k ws = option_map_or (λ key. option_map_or (λ n. Err n) (first_fault m ws) (Ok key)) (key_of k) (Err notice.BadFormat)

-- What is shown.

-- an `ms` is told no unique: it gets the text of a server without them
abbrev pub unique_field : Meta → Option Field
unique_field meta.Get = Some field.Unique
unique_field meta.Set = Some (field.Word (codes "c0"))
unique_field meta.Delete = None
unique_field meta.Count = None

abbrev pub field_of_flag : Meta → List ℕ → List ℕ → Flag → Option Field
field_of_flag m key w flag.Value = None
field_of_flag m key w flag.Quiet = None
field_of_flag m key w flag.Key = Some (field.Word (codes "k" ++ key))
field_of_flag m key w flag.Opaque = Some (field.Word w)
field_of_flag m key w flag.ItemFlags = Some field.Flags
field_of_flag m key w flag.Size = Some field.Size
field_of_flag m key w flag.Unique = unique_field m
field_of_flag m key w flag.Exptime = None
field_of_flag m key w flag.NewFlags = None
field_of_flag m key w flag.Compare = None
field_of_flag m key w flag.Delta = None
field_of_flag m key w flag.Mode = None
field_of_flag m key w flag.Ignored = None

-- what a flag asks for
abbrev pub field_of : Meta → List ℕ → List ℕ → Option Field
field_of m key w = flag_of (flag_letter w) >>= λ f. field_of_flag m key w f

abbrev pub meta_show : Meta → List ℕ → List (List ℕ) → MetaShow
meta_show m key ws = record { quiet = has (codes "q") ws; value = has (codes "v") ws; fields = filter_map (field_of m key) ws }

-- What is asked.

abbrev pub exptime_in : List (List ℕ) → Option ℤ
exptime_in ws = token_behind (codes "T") ws >>= exptime_of

abbrev pub flags_in : List (List ℕ) → Option ℕ
flags_in ws = token_behind (codes "F") ws >>= flags_of

abbrev pub unique_in : List (List ℕ) → Option ℕ
unique_in ws = token_behind (codes "C") ws >>= unsigned_of

abbrev pub delta_in : List (List ℕ) → Option ℕ
delta_in ws = token_behind (codes "D") ws >>= unsigned_of

abbrev pub verb_in : List (List ℕ) → Option StoreVerb
verb_in ws = token_behind (codes "M") ws >>= verb_of_mode

abbrev pub direction_in : List (List ℕ) → Option Bool
direction_in ws = token_behind (codes "M") ws >>= direction_of

-- an item is read, and gets a new exptime if there is one
abbrev pub get_command : List ℕ → List (List ℕ) → Command
get_command key ws = option_map_or (λ exptime. command.Gats exptime (key ∷ [])) (exptime_in ws) (command.Gets (key ∷ []))

-- An item is removed. If its unique is named, an item that expired long ago takes its place, which is the same.
abbrev pub delete_update : List ℕ → List (List ℕ) → Update
delete_update key ws = option_map_or (λ unique. update.Cas key 0 (neg_ℤ (pos 1)) [] unique) (unique_in ws) (update.Delete key)

abbrev pub count_update : List ℕ → List (List ℕ) → Update
count_update key ws = counting (unwrap_or (direction_in ws) true) key (unwrap_or (delta_in ws) 1)

-- A unique is compared by a `cas`, if the mode is to set or to replace. To append to a unique is not had.
abbrev pub comparing : StoreVerb → ℕ → Option Kind
comparing verb.Set unique = Some (kind.Cas unique)
comparing verb.Add unique = Some (kind.Plain verb.Add)
comparing verb.Replace unique = Some (kind.Cas unique)
comparing verb.Append unique = None
comparing verb.Prepend unique = None

abbrev pub kind_in : List (List ℕ) → Option Kind
kind_in ws = option_map_or (comparing (unwrap_or (verb_in ws) verb.Set)) (unique_in ws) (Some (kind.Plain (unwrap_or (verb_in ws) verb.Set)))

-- Lines.

abbrev pub says_one : Notice → Line
says_one n = Gives (Some (Say n))

-- the line of a key with flags, if it has no fault
abbrev pub on_checked : Result (List ℕ) Notice → (List ℕ → Line) → Line
on_checked (Ok key) line = line key
on_checked (Err n) line = says_one n

abbrev pub asks_meta : Meta → Command → List ℕ → List (List ℕ) → Line
asks_meta m c key ws = Gives (Some (Ask c (show.Meta (meta_show m key ws))))

-- an `ms` of this kind
abbrev pub opening : ℕ → List ℕ → List (List ℕ) → Kind → Opening
opening size key ws k = record {
  header = record { kind = k; key = key; flags = unwrap_or (flags_in ws) 0; exptime = unwrap_or (exptime_in ws) (pos 0); size = size; quiet = false };
  show = show.Meta (meta_show meta.Set key ws);
}

abbrev pub opening_of : ℕ → List (List ℕ) → Result (List ℕ) Notice → Result Opening Notice
opening_of size ws (Ok key) = option_map_or (λ k. Ok (opening size key ws k)) (kind_in ws) (Err notice.UnknownFlag)
opening_of size ws (Err n) = Err n

-- An `ms` with the size of its block. If the block is above the limit nothing of the item may stay.
abbrev pub sized_set : ℕ → Result Opening Notice → Line
sized_set size (Ok o) =
    if nat_lt MOST_BLOCK_BYTES size then Skips (size + 2) (Some (Ask (command.Update (update.Delete o.header.key)) (show.Instead notice.TooLarge))) else Opens o
sized_set size (Err n) = Skips (size + 2) (Some (Say n))

-- <key> <bytes> <flag>..
abbrev pub set_line : List ℕ → List (List ℕ) → Line
set_line k [] = says_one notice.BadFormat
set_line k (n ∷ ws) = option_map_or (λ size. sized_set size (opening_of size ws (checked meta.Set k ws))) (block_size_of n) (says_one notice.BadFormat)

-- <key> <flag>..
unfoldable pub key_line : Meta → List ℕ → List (List ℕ) → Line
key_line meta.Get k ws = on_checked (checked meta.Get k ws) (λ key. asks_meta meta.Get (get_command key ws) key ws)
key_line meta.Set k ws = set_line k ws
key_line meta.Delete k ws = on_checked (checked meta.Delete k ws) (λ key. asks_meta meta.Delete (command.Update (delete_update key ws)) key ws)
key_line meta.Count k ws = on_checked (checked meta.Count k ws) (λ key. asks_meta meta.Count (command.Update (count_update key ws)) key ws)

abbrev pub meta_line : Meta → List (List ℕ) → Line
meta_line m [] = says_one notice.UnknownName
meta_line m (k ∷ ws) = key_line m k ws
