-- The keys of a command, and the items of a reply.
use Rattle.std.specs.Prelude.{ℕ, length}
use Rattle.proto.specs.declared.command.Command.{Command}
use Rattle.proto.specs.declared.command.Command.TheVariants as command
use Rattle.proto.specs.declared.reply.Reply.{Reply}
use Rattle.proto.specs.declared.reply.Reply.TheVariants as reply

abbrev pub counted_keys : Command → ℕ
counted_keys (command.Get keys) = length keys
counted_keys (command.Gets keys) = length keys
counted_keys (command.Gat _ keys) = length keys
counted_keys (command.Gats _ keys) = length keys
counted_keys (command.Update _) = 0

abbrev pub found_of : Reply → ℕ
found_of (reply.Values found) = length found
found_of _ = 0
