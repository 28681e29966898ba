-- Blocks that are no longer than a version takes, in what was asked and in what is kept of clients.
use Rattle.std.specs.Prelude.{ℕ, ◌≤◌, List, length, All}
use Rattle.std.specs.FinMap.{entries}
use Rattle.proto.specs.declared.command.Update.{Update}
use Rattle.proto.specs.declared.command.Update.TheVariants.{Store, Cas, Delete, Touch, Incr, Decr}
use Rattle.proto.specs.declared.command.Command.{Command}
use Rattle.proto.specs.declared.command.Command.TheVariants as command
use Rattle.proto.specs.declared.reply.Reply.{Reply}
use Rattle.proto.specs.declared.reply.Reply.TheVariants as reply
use Rattle.sessions.specs.Fresh.{Replies}
use Rattle.batches.specs.declared.batch.Batch.{Batch}

-- the block of a storage line
abbrev pub UpdateWithin : ℕ → Update → Type 0
UpdateWithin most (Store verb key flags exptime block) = length block ≤ most
UpdateWithin most (Cas key flags exptime block unique) = length block ≤ most
UpdateWithin most (Delete key) = Unit {0}
UpdateWithin most (Touch key exptime) = Unit {0}
UpdateWithin most (Incr key delta) = Unit {0}
UpdateWithin most (Decr key delta) = Unit {0}

abbrev pub CommandWithin : ℕ → Command → Type 0
CommandWithin most (command.Get keys) = Unit {0}
CommandWithin most (command.Gets keys) = Unit {0}
CommandWithin most (command.Gat exptime keys) = Unit {0}
CommandWithin most (command.Gats exptime keys) = Unit {0}
CommandWithin most (command.Update update) = UpdateWithin most update

-- each block that a batch stores
abbrev pub BlocksWithin : ℕ → Batch → Type 0
BlocksWithin most batch = All (λ r. CommandWithin most r.command) batch.requests

-- the blocks that a reply shows
abbrev pub ReplyWithin : ℕ → Reply → Type 0
ReplyWithin most reply.Stored = Unit {0}
ReplyWithin most reply.NotStored = Unit {0}
ReplyWithin most reply.Exists = Unit {0}
ReplyWithin most reply.NotFound = Unit {0}
ReplyWithin most reply.Deleted = Unit {0}
ReplyWithin most reply.Touched = Unit {0}
ReplyWithin most (reply.Number n) = Unit {0}
ReplyWithin most (reply.Values found) = All (λ f. length f.block ≤ most) found
ReplyWithin most reply.TooLarge = Unit {0}
ReplyWithin most reply.NotNumber = Unit {0}

-- each block that is kept for a client
abbrev pub RepliesWithin : ℕ → Replies → Type 0
RepliesWithin most sessions = All (λ e. ReplyWithin most e.1.reply) (entries sessions)
