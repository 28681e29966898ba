-- No sessions are encoded at the front of others.
use Rattle.std.proofs.Common.{◌≡◌, refl}
use Rattle.std.specs.Ordering.{nat_cmp}
use Rattle.std.specs.FinMap.{FinMap, entries, from_sorted, same_entries_map, entries-from_sorted, entries_sorted}
use Rattle.sessions.specs.declared.sessions.LastReply.{LastReply}
use Rattle.wire.specs.Record.{IsPrefixFree}
use Rattle.wire.specs.Session.{kept_text, session_text, sessions_text}
use Rattle.wire.specs.FieldLaws.{list_prefix_free}
use Rattle.wire.specs.ReplyLaws.{reply_prefix_free}
use Rattle.wire.specs.RowLaws.{u16_free, u64_free, followed, made_of, marked}

pub kept_prefix_free : IsPrefixFree kept_text
kept_prefix_free = made_of (followed u64_free reply_prefix_free) kept_text
    (λ kept. (kept.number, kept.reply)) (λ p. record { number = p.0; reply = p.1 }) (λ kept. refl) (λ kept. refl)

pub session_prefix_free : IsPrefixFree session_text
session_prefix_free = followed u16_free kept_prefix_free

together : (m : FinMap nat_cmp LastReply) → from_sorted (entries m) ≡ m
together m = same_entries_map (from_sorted (entries m)) m (entries-from_sorted nat_cmp (entries m) (entries_sorted m))

pub sessions_prefix_free : IsPrefixFree sessions_text
unfolding sessions_text
sessions_prefix_free = made_of (marked 3 (list_prefix_free session_text session_prefix_free)) sessions_text entries from_sorted together (λ m. refl)
