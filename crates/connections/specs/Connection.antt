-- A connection, as contracts see it, and what its calls do.
use Rattle.std.specs.Prelude.{◌≡◌, ℕ, ◌+◌, ◌-◌, ◌^◌, ◌<◌, min, length, List}
use Rattle.proto.specs.declared.reply.Reply as replies
use Rattle.grammar.specs.declared.reader.Dialect.{Dialect}
use Rattle.session.specs.declared.session.Ready.{Ready}
use Rattle.session.specs.declared.session.Session.{Session}
use Rattle.session.specs.Session.{SessionStep, new_session, IsFedSession, session_answered, IsTakenOfSession}
use Rattle.loop_messages.specs.declared.message.TheConstants.{MOST_UNWRITTEN}

pub record ConnectionView : Type 0 where
  pub number : ℕ
  pub session : Session
  -- how many bytes it was given that are not written yet, at most 2^64 - 1
  pub unwritten : ℕ

-- nothing came of it yet
abbrev pub new_connection : Dialect → ℕ → ConnectionView
new_connection d number = record { number = number; session = new_session d; unwritten = 0 }

-- the connection after a step of its session, which leaves this
abbrev pub after_given : ConnectionView → SessionStep → ConnectionView
after_given c g = record { number = c.number; session = g.session; unwritten = min (c.unwritten + length g.bytes) (2 ^ 64 - 1) }

-- it reads a piece, and is given these bytes
abbrev pub IsFedTo : ConnectionView → List ℕ → ConnectionView → List ℕ → Type 0
IsFedTo c piece now bytes = (g : SessionStep) × IsFedSession c.session piece g × (now ≡ after_given c g) × (bytes ≡ g.bytes)

-- it takes a reply, and is given these bytes
abbrev pub ConnectionAnswers : ConnectionView → ℕ → replies.Reply → ConnectionView → List ℕ → Type 0
ConnectionAnswers c turn reply now bytes = (g : SessionStep) × (g ≡ session_answered c.session turn reply) × (now ≡ after_given c g) × (bytes ≡ g.bytes)

-- the outstanding command is taken
pub record IsTaken (c : ConnectionView) (ready : Ready) (now : ConnectionView) : Type 0 where
  pub session : Session
  pub of_session : IsTakenOfSession c.session ready session
  -- little waits to be written
  pub few : c.unwritten < MOST_UNWRITTEN
  pub now_is : now ≡ record { number = c.number; session = session; unwritten = c.unwritten }
