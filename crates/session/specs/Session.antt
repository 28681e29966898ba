-- A session: what each call leaves, and what it gives.
use Rattle.std.specs.Prelude.{◌≡◌, ℕ, ◌+◌, ◌==◌, Bool, true, false, List, [], ◌++◌, ◌∷◌, Option, Some, None, if◌then◌else◌}
use Rattle.proto.specs.declared.command.Command.{Command}
use Rattle.proto.specs.declared.reply.Reply as replies
use Rattle.dialect.specs.Text.{shown_text}
use Rattle.grammar.specs.declared.reader.Dialect.{Dialect}
use Rattle.grammar.specs.declared.reader.Reader.{Reader}
use Rattle.grammar.specs.declared.turn.Turn.{Turn}
use Rattle.grammar.specs.declared.turn.Turn.TheVariants.{Ask, Say, Close}
use Rattle.grammar.specs.Turns.{said_text, is_left_out}
use Rattle.grammar.specs.Reads.{new_reader, ReaderReads}
use Rattle.session.specs.declared.session.Awaited.{Awaited}
use Rattle.session.specs.declared.session.Ready.{Ready}
use Rattle.session.specs.declared.session.Session.{Session}

-- what a call leaves: the session, and the bytes that its client is given
pub record SessionStep : Type 0 where
  pub session : Session
  pub bytes : List ℕ

-- nothing came yet
abbrev pub new_session : Dialect → Session
new_session d = record { reader = new_reader d; waiting = []; last = 0; outstanding = None; command = None; closed = false }

-- these bytes are given, and nothing else
abbrev pub session_gives : Session → List ℕ → SessionStep
session_gives s bytes = record { session = s; bytes = bytes }

-- nothing changes, and nothing is given
abbrev pub session_stays : Session → SessionStep
session_stays s = session_gives s []

-- The first of the turns that wait are taken, behind these bytes: a text is given; a Close gives its text, and
-- nothing waits any more; a command becomes the outstanding one, and the turns behind it wait on.
abbrev pub session_goes : Session → List ℕ → List Turn → SessionStep
session_goes s bytes [] = session_gives (record s { waiting = [] }) bytes
session_goes s bytes (Say notice ∷ turns) = session_goes s (bytes ++ said_text notice) turns
session_goes s bytes (Close notice ∷ turns) = session_gives (record s { waiting = []; closed = true }) (bytes ++ said_text notice)
session_goes s bytes (Ask command show ∷ turns) =
    session_gives (record s { waiting = turns; last = s.last + 1; outstanding = Some (record { number = s.last + 1; show = show }); command = Some command }) bytes

-- it goes on if it is not closed and nothing is outstanding
abbrev pub session_goes_if : Session → List ℕ → Option Awaited → Bool → SessionStep
session_goes_if s bytes None false = session_goes s bytes s.waiting
session_goes_if s bytes None true = session_gives s bytes
session_goes_if s bytes (Some asked) closed = session_gives s bytes

abbrev pub session_goes_on : Session → List ℕ → SessionStep
session_goes_on s bytes = session_goes_if s bytes s.outstanding s.closed

-- ---- a piece comes

-- the turns that end in a piece wait behind the others, and it goes on
abbrev pub session_fed : Session → List Turn → Reader → SessionStep
session_fed s turns now = session_goes_on (record s { reader = now; waiting = s.waiting ++ turns }) []

abbrev pub IsFedSessionIf : Bool → Session → List ℕ → SessionStep → Type 0
IsFedSessionIf true s piece g = g ≡ session_stays s
IsFedSessionIf false s piece g = (turns : List Turn) × (now : Reader) × ReaderReads s.reader piece turns now × (g ≡ session_fed s turns now)

-- A piece of the client's bytes comes. If it is closed, nothing is read.
abbrev pub IsFedSession : Session → List ℕ → SessionStep → Type 0
IsFedSession s piece g = IsFedSessionIf s.closed s piece g

-- ---- a reply comes

-- the command of this number is outstanding
abbrev pub is_outstanding_as : Option Awaited → ℕ → Bool
is_outstanding_as None number = false
is_outstanding_as (Some asked) number = asked.number == number

abbrev pub answered_to_awaited : Session → ℕ → replies.Reply → Option Awaited → SessionStep
answered_to_awaited s number reply None = session_stays s
answered_to_awaited s number reply (Some asked) = if asked.number == number then session_goes_on (record s { outstanding = None }) (shown_text reply asked.show) else session_stays s

-- before its command was taken there is no reply to it
abbrev pub answered_if_taken : Session → ℕ → replies.Reply → Option Command → SessionStep
answered_if_taken s number reply None = answered_to_awaited s number reply s.outstanding
answered_if_taken s number reply (Some command) = session_stays s

-- A reply to the command of this number comes. If that one is outstanding and was taken, the text of the reply is given, and it goes on.
abbrev pub session_answered : Session → ℕ → replies.Reply → SessionStep
session_answered s number reply = answered_if_taken s number reply s.command

-- ---- the command is taken

-- the outstanding command is taken
pub record IsTakenOfSession (s : Session) (ready : Ready) (now : Session) : Type 0 where
  pub asked : Awaited
  pub outstanding : s.outstanding ≡ Some asked
  pub turn : asked.number ≡ ready.turn
  pub quiet : is_left_out asked.show ≡ ready.quiet
  pub untaken : s.command ≡ Some ready.command
  pub now_is : now ≡ record s { command = None }
