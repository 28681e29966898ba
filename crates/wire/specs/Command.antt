-- Commands and requests.
use Rattle.std.specs.Prelude.{ℕ, List, ◌∷◌, ◌++◌}
use Rattle.std.specs.Int.{w16, w32, w64}
use Rattle.proto.specs.declared.command.StoreVerb.{StoreVerb}
use Rattle.proto.specs.declared.command.StoreVerb.TheVariants.{Set, Add, Replace, Append, Prepend}
use Rattle.proto.specs.declared.command.Update.{Update}
use Rattle.proto.specs.declared.command.Update.TheVariants.{Store, Cas, Delete, Touch, Incr, Decr}
use Rattle.proto.specs.declared.command.Command.{Command}
use Rattle.proto.specs.declared.command.Command.TheVariants as command
use Rattle.sessions.specs.declared.request.Request.{Request}
use Rattle.wire.specs.Number.{num, num_signed}
use Rattle.wire.specs.Block.{block_text}
use Rattle.wire.specs.Key.{key_text, keys_text}

abbrev pub verb_mark : StoreVerb → ℕ
verb_mark Set = 2
verb_mark Add = 3
verb_mark Replace = 4
verb_mark Append = 5
verb_mark Prepend = 6

abbrev pub update_text : Update → List ℕ
update_text (Store verb key flags exptime block) = verb_mark verb ∷ (key_text key ++ num w32 flags ++ num_signed exptime ++ block_text block)
update_text (Cas key flags exptime block unique) = 7 ∷ (key_text key ++ num w32 flags ++ num_signed exptime ++ block_text block ++ num w64 unique)
update_text (Delete key) = 8 ∷ key_text key
update_text (Touch key exptime) = 9 ∷ (key_text key ++ num_signed exptime)
update_text (Incr key delta) = 10 ∷ (key_text key ++ num w64 delta)
update_text (Decr key delta) = 11 ∷ (key_text key ++ num w64 delta)

abbrev pub command_text : Command → List ℕ
command_text (command.Get keys) = 0 ∷ keys_text keys
command_text (command.Gets keys) = 1 ∷ keys_text keys
command_text (command.Gat exptime keys) = 12 ∷ (num_signed exptime ++ keys_text keys)
command_text (command.Gats exptime keys) = 13 ∷ (num_signed exptime ++ keys_text keys)
command_text (command.Update update) = update_text update

abbrev pub request_text : Request → List ℕ
request_text r = num w16 r.client ++ num w64 r.number ++ command_text r.command
