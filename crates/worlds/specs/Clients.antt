-- What becomes of a client's part of the server in an event.
use Rattle.std.specs.Prelude.{◌≡◌, ◌⊎◌, ℕ, ◌&&◌, Bool, true, false, not, IsTrue, List, [], ◌++◌}
use Rattle.decrees.specs.declared.node.Letter.{Letter}
use Rattle.exec_lines.specs.declared.body.Body.{Body}
use Rattle.client.specs.declared.input.Input as of_client
use Rattle.client.specs.declared.talk.Talk.{Talk}
use Rattle.client.specs.Client.{ClientView}
use Rattle.client.specs.Talk.{Given}
use Rattle.client.specs.Step.{IsClientStep, fits_talk}
use Rattle.client.specs.Laws.{is_hangup}

-- A client's part of the server, and the bytes that its client was given so far.
pub record ClientSlot : Type 0 where
  pub client : ClientView
  pub given : List ℕ

abbrev pub ClientSettlesWhere : Bool → ClientSlot → of_client.Input → ClientSlot → List (Letter Body) → Type 0
ClientSettlesWhere false old x now new = (now ≡ old) × (new ≡ [])
ClientSettlesWhere true old x now new =
    ((g : Given) × IsClientStep old.client.u old.client.client old.client.talk x g × (now ≡ record { client = record old.client { talk = g.talk }; given = old.given ++ g.bytes }) × (new ≡ g.letters))
    ⊎ (IsTrue (fits_talk old.client.talk x && not (is_hangup x)) × ((talk : Talk) × (now ≡ record { client = record old.client { talk = talk; up = false }; given = old.given }) × (new ≡ [])))

-- A client's part is given an input. It does the step; or, if the input fits a line and is no hangup, it stops, and nothing is asked or given. One that was stopped stays as it is.
abbrev pub ClientSettles : ClientSlot → of_client.Input → ClientSlot → List (Letter Body) → Type 0
ClientSettles old x now new = ClientSettlesWhere old.client.up old x now new

-- what its client sends is still taken
abbrev pub is_client_open : ClientSlot → Bool
is_client_open c = c.client.up && not c.client.talk.closed
