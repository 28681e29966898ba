-- What a client was given, next to what its bytes spell.
use Rattle.std.specs.Prelude.{◌≡◌, ℕ, ◌+◌, true, false, List, [], ◌∷◌, ◌++◌, length, Option, Some, None}
use Rattle.proto.specs.declared.command.Command.{Command}
use Rattle.proto.specs.declared.reply.Reply as replies
use Rattle.grammar.specs.declared.reader.Dialect.{Dialect}
use Rattle.grammar.specs.declared.turn.Turn.{Turn}
use Rattle.grammar.specs.declared.turn.Turn.TheVariants.{Ask}
use Rattle.grammar.specs.Asks.{commands_in, TextsShown, BeginsIn}
use Rattle.grammar.specs.Reads.{HasReadIn}
use Rattle.session.specs.declared.session.Awaited.{Awaited}
use Rattle.session.specs.declared.session.Session.{Session}

-- The turn of what is outstanding. Its command is the one that was not taken, or was taken.
abbrev pub IsPending : Option Awaited → Option Command → List Turn → Type 0
IsPending None None turns = turns ≡ []
IsPending None (Some command) turns = ⊥
IsPending (Some asked) (Some command) turns = turns ≡ Ask command asked.show ∷ []
IsPending (Some asked) None turns = (command : Command) × (turns ≡ Ask command asked.show ∷ [])

-- nothing is outstanding, and nothing waits
pub record IsIdleSession (s : Session) : Type 0 where
  pub none_asked : s.outstanding ≡ None
  pub none_waits : s.waiting ≡ []

-- All bytes were read: what was done and what waits are all that they spell.
pub record HasAllRead (d : Dialect) (all : List ℕ) (s : Session) (done : List Turn) : Type 0 where
  pub turns : List Turn
  pub reads : HasReadIn d s.reader all turns
  pub split : turns ≡ done ++ s.waiting

-- A session that was fed all these bytes, which are read in this grammar, next to what its client was given: the texts of the first turns that the bytes spell.
pub record SessionOk (d : Dialect) (P : ℕ → replies.Reply → Type 0) (all : List ℕ) (s : Session) (given : List ℕ) : Type 0 where
  -- the turns that were taken and are done
  pub taken : List Turn
  pub texts : TextsShown P 1 taken given
  pub front : BeginsIn d all taken
  -- what is outstanding
  pub pending : List Turn
  pub is_pending : IsPending s.outstanding s.command pending
  -- commands are numbered one after the other
  pub number : s.last ≡ length (commands_in taken) + length pending
  pub own : (a : Awaited) → s.outstanding ≡ Some a → a.number ≡ s.last
  -- until a Close is taken
  pub live : s.closed ≡ false → HasAllRead d all s (taken ++ pending)
  -- after a Close nothing is outstanding
  pub idle : s.closed ≡ true → IsIdleSession s
