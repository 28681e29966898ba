-- What a client was given, next to what its bytes spell.
use Rattle.std.specs.Prelude.{◌≡◌, ℕ, ◌+◌, Bool, true, false, List, [], ◌∷◌, ◌++◌, length, Option, Some, None}
use Rattle.proto.specs.declared.reply.Reply as replies
use Rattle.proto.specs.declared.turn.Turn.{Turn}
use Rattle.proto.specs.declared.turn.Turn.TheVariants.{Ask}
use Rattle.proto.specs.Reader.{ReadsTurns}
use Rattle.memcached_spec.specs.Asked.{asked, TextsBy, Front}
use Rattle.client.specs.declared.asked.Asked.{Asked}
use Rattle.client.specs.declared.talk.Talk.{Talk}
use Rattle.client.specs.RequestProofs.{client_number}

-- the turn of what is outstanding
abbrev pub pending : Option Asked → List Turn
pending None = []
pending (Some a) = Ask a.request.command a.quiet ∷ []

-- nothing is outstanding, and nothing waits
pub record IsIdle (t : Talk) : Type 0 where
  pub none_asked : t.outstanding ≡ None
  pub none_waits : t.waiting ≡ []

-- A client that did not hang up has read all of its bytes, up to a Close: what was taken, what is outstanding and what waits are all that they spell.
pub record Live (c : ℕ) (all : List ℕ) (t : Talk) (taken : List Turn) : Type 0 where
  pub turns : List Turn
  pub reads : ReadsTurns all turns t.reader
  pub split : turns ≡ taken ++ (pending t.outstanding ++ t.waiting)
  -- requests are numbered one after the other
  pub number : t.last ≡ length (asked taken) + length (pending t.outstanding)
  pub own : (a : Asked) → t.outstanding ≡ Some a → (a.request.client ≡ client_number c) × (a.request.number ≡ t.last)
  pub ends : t.closed ≡ true → t.reader.closed ≡ true

-- What a client keeps that was fed all these bytes, next to what it was given: the texts of the first turns that the bytes spell.
pub record TalkOk (P : ℕ → replies.Reply → Type 0) (c : ℕ) (all : List ℕ) (hung : Bool) (t : Talk) (given : List ℕ) : Type 0 where
  -- the turns that were taken and are done
  pub taken : List Turn
  pub texts : TextsBy P 1 taken given
  pub front : Front all taken
  pub live : hung ≡ false → Live c all t taken
  -- only what hung up or took a Close is closed, and then nothing is outstanding
  pub unhung : t.closed ≡ false → hung ≡ false
  pub idle : t.closed ≡ true → IsIdle t
