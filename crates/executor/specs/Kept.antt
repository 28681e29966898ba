-- What a tentative state and a restored state keep.
use Rattle.std.specs.Prelude.{◌≡◌, ◌+◌, List, [], map, Option, Some, None, Result, Ok, Err, ◌==◌, if◌then◌else◌}
use Rattle.std.specs.FinMap.{get}
use Rattle.sessions.specs.Fresh.{Replies}
use Rattle.sessions.specs.declared.sessions.LastReply.{LastReply}
use Rattle.base.specs.declared.fault.Fault.{Fault}
use Rattle.wire.specs.Record.{Refused}
use Rattle.executor.specs.declared.answered.Answered.{Answered}
use Rattle.states.specs.declared.version.Version.{Version}
use Rattle.states.specs.declared.version.Version.TheVariants.{First, Second}
use Rattle.states.specs.State.{StateView}
use Rattle.executor.specs.Fresh.{Runner}
use Rattle.states.specs.Followed.{IsSuccessor}
use Rattle.states.specs.OldRecord.{IsOldSuccessor}
use Rattle.states.specs.Version.{IsStateIn}
use Rattle.executor.specs.Round.{runners}
use Rattle.executor.specs.Work.{TentativeView, CommittedView}

-- the reply to a request, if it is what is kept of the client
abbrev pub reply_kept : Runner → Option LastReply → Option Answered
reply_kept r None = None
reply_kept r (Some kept) = if kept.number == r.1.number then Some (record { place = r.0; client = r.1.client; number = r.1.number; reply = kept.reply }) else None

abbrev pub kept_for : Replies → Runner → Option Answered
kept_for sessions r = reply_kept r (get sessions r.1.client)

-- the sessions keep just these replies to these requests
abbrev pub AreKept : Replies → List Runner → List Answered → Type 0
AreKept sessions requests replies = map (kept_for sessions) requests ≡ map Some replies

-- the reply that the sessions keep for a request
abbrev pub IsKeptReply : Replies → Runner → Result Answered Fault → Type 0
IsKeptReply sessions r (Ok answered) = kept_for sessions r ≡ Some answered
IsKeptReply sessions r (Err e) = Refused e (kept_for sessions r ≡ None)

-- the sessions do not keep a reply to each of these requests
abbrev pub LackOne : Replies → List Runner → Type 0
LackOne sessions requests = (replies : List Answered) → AreKept sessions requests replies → ⊥

-- What every tentative state keeps: its batch is the next, its state what the batch makes of the state
-- before, and its replies are those that the sessions keep for the requests that ran.
pub record IsTentative (t : TentativeView) : Type 0 where
  pub next : t.batch.n ≡ t.before.number + 1
  pub after : IsSuccessor t.before t.batch t.after
  pub kept : AreKept t.after.sessions (runners t.before t.batch) t.replies

-- a tentative state over this one
pub record IsTentativeOver (base : StateView) (t : TentativeView) : Type 0 where
  pub is : IsTentative t
  pub over : t.before ≡ base

-- one that the version has
abbrev pub IsTentativeOverIn : Version → StateView → TentativeView → Type 0
IsTentativeOverIn First base t = IsTentativeOver base t × IsOldSuccessor t.before t.batch t.after
IsTentativeOverIn Second base t = IsTentativeOver base t

-- a committed state that the version has, with no reply beside it
pub record IsQuietIn (version : Version) (c : CommittedView) : Type 0 where
  pub state : IsStateIn version c.state
  pub none : c.replies ≡ []
