-- What is kept of each client.
use Rattle.std.specs.Prelude.{ℕ, List, ◌∷◌, ◌++◌}
use Rattle.std.specs.Int.{w16, w64}
use Rattle.std.specs.Ordering.{nat_cmp}
use Rattle.std.specs.FinMap.{FinMap, entries}
use Rattle.sessions.specs.declared.sessions.LastReply.{LastReply}
use Rattle.sessions.specs.Limits.{SessionFits}
use Rattle.wire.specs.Number.{num}
use Rattle.wire.specs.Field.{list_text, ListFits}
use Rattle.wire.specs.Reply.{reply_record}

abbrev pub kept_text : LastReply → List ℕ
kept_text kept = num w64 kept.number ++ reply_record kept.reply

abbrev pub session_text : ℕ × LastReply → List ℕ
session_text session = num w16 session.0 ++ kept_text session.1

-- by rising clients
unfoldable pub sessions_text : FinMap nat_cmp LastReply → List ℕ
sessions_text sessions = 3 ∷ list_text session_text (entries sessions)

abbrev pub SessionsFit : FinMap nat_cmp LastReply → Type 0
SessionsFit sessions = ListFits SessionFits (entries sessions)
