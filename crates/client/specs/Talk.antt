-- What a client's part of the server keeps, what a step leaves, and how it goes on.
use Rattle.std.specs.Prelude.{ℕ, zero, suc, ◌+◌, Bool, true, false, List, [], ◌∷◌, ◌++◌, Option, Some, None}
use Rattle.proto.specs.declared.command.Command.{Command}
use Rattle.proto.specs.declared.turn.Turn.{Turn}
use Rattle.proto.specs.declared.turn.Turn.TheVariants.{Ask, Say, Close}
use Rattle.proto.specs.Text.{notice_text}
use Rattle.sessions.specs.declared.request.Request.{Request}
use Rattle.decrees.specs.declared.node.Letter.{Letter}
use Rattle.decrees.specs.declared.node.Node.{Node}
use Rattle.decrees.specs.declared.node.Node.TheVariants.{Client, Executor}
use Rattle.decrees.specs.Count.{member_count}
use Rattle.exec_lines.specs.declared.body.Body.{Body}
use Rattle.exec_lines.specs.declared.body.Body.TheVariants as body
use Rattle.client.specs.declared.asked.Asked.{Asked}
use Rattle.client.specs.declared.talk.Talk.{Talk}
use Rattle.client.specs.RequestProofs.{client_number, client_from_one, next_from_one}

-- what a step leaves: what is kept, the letters in order, and the bytes that the client is given
pub record Given : Type 0 where
  pub talk : Talk
  pub letters : List (Letter Body)
  pub bytes : List ℕ

-- nothing came yet
abbrev pub new_talk : Talk
new_talk = record { reader = record { kept = []; closed = false; held = 0 }; waiting = []; last = 0; outstanding = None; closed = false }

-- the request of this client that comes after its request number `last`
abbrev pub next_request : ℕ → ℕ → Command → Request
next_request c last command = record { client = client_number c; number = last + 1; command = command; is_client = client_from_one c; is_numbered = next_from_one last }

abbrev pub client_letter : ℕ → Node → Body → Letter Body
client_letter c to b = record { from = Client c; to = to; body = b }

abbrev pub wants_below : ℕ → ℕ → Request → List (Letter Body)
wants_below c zero r = []
wants_below c (suc n) r = wants_below c n r ++ client_letter c (Executor n) (body.Want r) ∷ []

-- the request, to all executors
abbrev pub wants : ℕ → ℕ → Request → List (Letter Body)
wants u c r = wants_below c (member_count u) r

-- nothing changes, nothing is asked and nothing given
abbrev pub unmoved : Talk → Given
unmoved t = record { talk = t; letters = []; bytes = [] }

-- these bytes are given, and nothing else
abbrev pub only_given : Talk → List ℕ → Given
only_given t bytes = record { talk = t; letters = []; bytes = bytes }

-- The first of the turns that wait are taken, behind these bytes: a text is given; a Close gives its text, and
-- nothing waits any more; a command is asked, and the turns behind it wait on.
abbrev pub go : ℕ → ℕ → Talk → List ℕ → List Turn → Given
go u c t bytes [] = only_given (record t { waiting = [] }) bytes
go u c t bytes (Say notice ∷ turns) = go u c t (bytes ++ notice_text notice) turns
go u c t bytes (Close notice ∷ turns) = only_given (record t { waiting = []; closed = true }) (bytes ++ notice_text notice)
go u c t bytes (Ask command quiet ∷ turns) = record {
  talk = record t { waiting = turns; last = t.last + 1; outstanding = Some (record { request = next_request c t.last command; quiet = quiet }) };
  letters = wants u c (next_request c t.last command);
  bytes = bytes;
}

-- it goes on if it is not closed and nothing is outstanding
abbrev pub go_where : ℕ → ℕ → Talk → List ℕ → Option Asked → Bool → Given
go_where u c t bytes None false = go u c t bytes t.waiting
go_where u c t bytes None true = only_given t bytes
go_where u c t bytes (Some asked) closed = only_given t bytes

abbrev pub go_on : ℕ → ℕ → Talk → List ℕ → Given
go_on u c t bytes = go_where u c t bytes t.outstanding t.closed
