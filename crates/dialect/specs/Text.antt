-- The bytes of notices, and of replies as they are shown.
use Rattle.std.specs.Prelude.{ℕ, List, [], codes, flat_map}
use Rattle.proto.specs.declared.reply.Reply.{Reply}
use Rattle.proto.specs.declared.reply.Reply.TheVariants as reply
use Rattle.proto.specs.Text.{reply_text, value_text}
use Rattle.dialect.specs.Stats.{report_text}
use Rattle.dialect.specs.MetaText.{meta_text}
use Rattle.dialect.specs.declared.turn.Notice.{Notice}
use Rattle.dialect.specs.declared.turn.Notice.TheVariants as notice
use Rattle.dialect.specs.declared.turn.Show.{Show}
use Rattle.dialect.specs.declared.turn.Show.TheVariants as show

abbrev pub notice_text : Notice → List ℕ
notice_text notice.UnknownName = codes "ERROR\r\n"
notice_text notice.BadFormat = codes "CLIENT_ERROR bad command line format\r\n"
notice_text notice.BadDelete = codes "CLIENT_ERROR bad command line format.  Usage: delete <key> [noreply]\r\n"
notice_text notice.BadExptime = codes "CLIENT_ERROR invalid exptime argument\r\n"
notice_text notice.BadDelta = codes "CLIENT_ERROR invalid numeric delta argument\r\n"
notice_text notice.TooLarge = codes "SERVER_ERROR object too large for cache\r\n"
notice_text notice.BadChunk = codes "CLIENT_ERROR bad data chunk\r\n"
notice_text notice.LineTooLong = codes "CLIENT_ERROR line too long\r\n"
notice_text notice.Version = codes "VERSION 1.6.18-eve-1\r\n"
notice_text notice.Done = codes "OK\r\n"
notice_text notice.NoItems = codes "END\r\n"
notice_text notice.MetaNoop = codes "MN\r\n"
notice_text notice.UnknownFlag = codes "CLIENT_ERROR invalid flag\r\n"
notice_text notice.DuplicateFlag = codes "CLIENT_ERROR duplicate flag\r\n"
notice_text notice.BadFlag = codes "CLIENT_ERROR invalid or duplicate flag\r\n"
notice_text notice.BadToken = codes "CLIENT_ERROR bad token in command line format\r\n"
notice_text notice.BadDeltaValue = codes "CLIENT_ERROR invalid numeric delta value\r\n"
notice_text notice.BadModeLength = codes "CLIENT_ERROR incorrect length for M token\r\n"
notice_text notice.BadSetMode = codes "CLIENT_ERROR invalid mode for ms M token\r\n"
notice_text notice.BadCountMode = codes "CLIENT_ERROR invalid mode for ma M token\r\n"
notice_text notice.OpaqueTooLong = codes "CLIENT_ERROR opaque token too long\r\n"
notice_text notice.FlushRefused = codes "CLIENT_ERROR flush_all not allowed\r\n"
notice_text notice.ShutdownRefused = codes "ERROR: shutdown not enabled\r\n"
notice_text notice.OutOfMemory = codes "SERVER_ERROR out of memory storing object\r\n"
notice_text (notice.Stats report) = report_text report
notice_text notice.Silent = []
notice_text notice.Http = []
notice_text notice.Binary = []

-- the items that a reply has, without the END after them
abbrev pub items_text : Reply → List ℕ
items_text reply.Stored = reply_text reply.Stored
items_text reply.NotStored = reply_text reply.NotStored
items_text reply.Exists = reply_text reply.Exists
items_text reply.NotFound = reply_text reply.NotFound
items_text reply.Deleted = reply_text reply.Deleted
items_text reply.Touched = reply_text reply.Touched
items_text (reply.Number n) = reply_text (reply.Number n)
items_text (reply.Values found) = flat_map value_text found
items_text reply.TooLarge = reply_text reply.TooLarge
items_text reply.NotNumber = reply_text reply.NotNumber

-- the bytes that a client is given for a reply
abbrev pub shown_text : Reply → Show → List ℕ
shown_text r show.Whole = reply_text r
shown_text r show.Quiet = []
shown_text r show.Items = items_text r
shown_text r (show.Instead notice) = notice_text notice
shown_text r (show.Meta m) = meta_text r m
