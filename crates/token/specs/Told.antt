-- The short text of what is kept of all clients, in which a long reply is its digest.
use Rattle.std.specs.Prelude.{◌≡◌, ℕ, Bool, List, ◌∷◌, ◌++◌, length, map, filter, Option, Some, None, All, Contains, nat_lt, if◌then◌else◌}
use Rattle.std.specs.Int.{w16, w64}
use Rattle.std.specs.Option.{option_and_then}
use Rattle.std.specs.Ordering.{nat_cmp}
use Rattle.std.specs.FinMap.{FinMap, entries, get}
use Rattle.proto.specs.declared.reply.Reply.{Reply}
use Rattle.sessions.specs.declared.sessions.LastReply.{LastReply}
use Rattle.sessions.specs.Fresh.{Replies}
use Rattle.wire.specs.Number.{num, fixed}
use Rattle.wire.specs.Field.{list_text}
use Rattle.wire.specs.Reply.{reply_record}
use Rattle.wire.specs.Distinct.{Distinct}
use Rattle.token.specs.declared.long_reply.TheConstants.{MOST_SHORT_BYTES}
use Rattle.token.specs.Digest.{digest}

-- whether the text of a reply is longer than a short one may be
abbrev pub is_long : Reply → Bool
is_long reply = nat_lt MOST_SHORT_BYTES (length (reply_record reply))

-- the digest of a long reply's text
abbrev pub long_digest : Reply → Option (List ℕ)
long_digest reply = if is_long reply then Some (digest (reply_record reply)) else None

-- 1 and the digest of a long reply's text, or 0 and the text of a short one
unfoldable pub told_reply : Reply → List ℕ
told_reply reply = if is_long reply then 1 ∷ fixed 32 (digest (reply_record reply)) else 0 ∷ reply_record reply

unfoldable pub told_session : ℕ × LastReply → List ℕ
told_session session = num w16 session.0 ++ num w64 session.1.number ++ told_reply session.1.reply

-- by rising clients
unfoldable pub told_sessions_text : Replies → List ℕ
told_sessions_text sessions = 7 ∷ list_text told_session (entries sessions)

-- digests by clients
abbrev pub DigestsOfClients : Type 0
DigestsOfClients = FinMap nat_cmp (List ℕ)

-- The digests of just the clients whose kept reply is long, each that of the reply.
pub record AreDigestsOf (sessions : Replies) (digests : DigestsOfClients) : Type 0 where
  pub each : (client : ℕ) → get digests client ≡ option_and_then (λ kept. long_digest kept.reply) (get sessions client)

abbrev pub long_texts : List (ℕ × LastReply) → List (List ℕ)
long_texts sessions = map (λ session. reply_record session.1.reply) (filter (λ session. is_long session.1.reply) sessions)

-- the texts of the long replies, which a told text has by their digests alone
abbrev pub long_reply_texts : Replies → List (List ℕ)
long_reply_texts sessions = long_texts (entries sessions)

-- sessions that have one told text are the same, if digests tell the texts of their long replies apart
abbrev pub TellsSessions : Type 0
TellsSessions = (texts : List (List ℕ)) → Distinct (Contains texts) → (m n : Replies) → All (Contains texts) (long_reply_texts m) → All (Contains texts) (long_reply_texts n)
    → told_sessions_text m ≡ told_sessions_text n → m ≡ n
