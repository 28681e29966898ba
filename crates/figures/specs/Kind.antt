-- The kind of a command, and where its counts are kept.
use Rattle.std.specs.Prelude.{ℕ, List, codes, Bool, true, false}
use Rattle.proto.specs.declared.command.Command.{Command}
use Rattle.proto.specs.declared.command.Command.TheVariants as command
use Rattle.proto.specs.declared.command.Update.{Update}
use Rattle.proto.specs.declared.command.Update.TheVariants as update
use Rattle.proto.specs.declared.command.StoreVerb.{StoreVerb}
use Rattle.proto.specs.declared.command.StoreVerb.TheVariants as verb
use Rattle.figures.specs.declared.kind.Kind.{Kind}
use Rattle.figures.specs.declared.kind.Kind.TheVariants as kind
use Rattle.figures.specs.declared.outcome.Outcome.{Outcome}
use Rattle.figures.specs.declared.outcome.Outcome.TheVariants as outcome

abbrev pub kind_of_verb : StoreVerb → Kind
kind_of_verb verb.Set = kind.Set
kind_of_verb verb.Add = kind.Add
kind_of_verb verb.Replace = kind.Replace
kind_of_verb verb.Append = kind.Append
kind_of_verb verb.Prepend = kind.Prepend

abbrev pub kind_of_update : Update → Kind
kind_of_update (update.Store v _ _ _ _) = kind_of_verb v
kind_of_update (update.Cas _ _ _ _ _) = kind.Cas
kind_of_update (update.Delete _) = kind.Delete
kind_of_update (update.Touch _ _) = kind.Touch
kind_of_update (update.Incr _ _) = kind.Incr
kind_of_update (update.Decr _ _) = kind.Decr

abbrev pub kind_of_asked : Command → Kind
kind_of_asked (command.Get _) = kind.Get
kind_of_asked (command.Gets _) = kind.Gets
kind_of_asked (command.Gat _ _) = kind.Gat
kind_of_asked (command.Gats _ _) = kind.Gats
kind_of_asked (command.Update u) = kind_of_update u

abbrev pub kind_place : Kind → ℕ
kind_place kind.Get = 0
kind_place kind.Gets = 1
kind_place kind.Gat = 2
kind_place kind.Gats = 3
kind_place kind.Set = 4
kind_place kind.Add = 5
kind_place kind.Replace = 6
kind_place kind.Append = 7
kind_place kind.Prepend = 8
kind_place kind.Cas = 9
kind_place kind.Delete = 10
kind_place kind.Touch = 11
kind_place kind.Incr = 12
kind_place kind.Decr = 13

-- its name in lines and pages
abbrev pub kind_name : Kind → List ℕ
kind_name kind.Get = codes "get"
kind_name kind.Gets = codes "gets"
kind_name kind.Gat = codes "gat"
kind_name kind.Gats = codes "gats"
kind_name kind.Set = codes "set"
kind_name kind.Add = codes "add"
kind_name kind.Replace = codes "replace"
kind_name kind.Append = codes "append"
kind_name kind.Prepend = codes "prepend"
kind_name kind.Cas = codes "cas"
kind_name kind.Delete = codes "delete"
kind_name kind.Touch = codes "touch"
kind_name kind.Incr = codes "incr"
kind_name kind.Decr = codes "decr"

-- a command that shows items
abbrev pub is_shown : Outcome → Bool
is_shown outcome.Hit = true
is_shown outcome.Miss = true
is_shown _ = false

abbrev pub is_stored_or_not : Outcome → Bool
is_stored_or_not outcome.Stored = true
is_stored_or_not outcome.NotStored = true
is_stored_or_not _ = false

abbrev pub is_of_append : Outcome → Bool
is_of_append outcome.TooLarge = true
is_of_append other = is_stored_or_not other

abbrev pub is_of_cas : Outcome → Bool
is_of_cas outcome.Stored = true
is_of_cas outcome.Exists = true
is_of_cas outcome.NotFound = true
is_of_cas _ = false

abbrev pub is_of_number : Outcome → Bool
is_of_number outcome.Counted = true
is_of_number outcome.NotFound = true
is_of_number outcome.NotNumber = true
is_of_number _ = false

abbrev pub is_of_set : Outcome → Bool
is_of_set outcome.Stored = true
is_of_set _ = false

abbrev pub is_of_delete : Outcome → Bool
is_of_delete outcome.Deleted = true
is_of_delete outcome.NotFound = true
is_of_delete _ = false

abbrev pub is_of_touch : Outcome → Bool
is_of_touch outcome.Touched = true
is_of_touch outcome.NotFound = true
is_of_touch _ = false

-- the outcomes that the protocol has for a command
abbrev pub kind_has : Kind → Outcome → Bool
kind_has kind.Get o = is_shown o
kind_has kind.Gets o = is_shown o
kind_has kind.Gat o = is_shown o
kind_has kind.Gats o = is_shown o
kind_has kind.Set o = is_of_set o
kind_has kind.Add o = is_stored_or_not o
kind_has kind.Replace o = is_stored_or_not o
kind_has kind.Append o = is_of_append o
kind_has kind.Prepend o = is_of_append o
kind_has kind.Cas o = is_of_cas o
kind_has kind.Delete o = is_of_delete o
kind_has kind.Touch o = is_of_touch o
kind_has kind.Incr o = is_of_number o
kind_has kind.Decr o = is_of_number o
