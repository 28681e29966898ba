-- What any inputs lead to.
use Rattle.std.specs.Prelude.{◌≡◌, ℕ, ◌-◌, ◌||◌, Bool, true, false, List, [], ◌∷◌, ◌++◌, flat_map, Option, Some, Contains, slice_get}
use Rattle.std.specs.List.{list_any}
use Rattle.proto.specs.declared.reply.Reply as replies
use Rattle.proto.specs.declared.turn.Turn.{Turn}
use Rattle.proto.specs.Grammar.{Spells}
use Rattle.client.specs.declared.asked.Asked.{Asked}
use Rattle.client.specs.declared.input.Input.{Input}
use Rattle.client.specs.declared.input.Input.TheVariants.{Feed, Reply, Again, Hangup}
use Rattle.client.specs.declared.talk.Talk.{Talk}
use Rattle.client.specs.RequestProofs.{client_number}
use Rattle.client.specs.Talk.{Given, new_talk, unmoved}
use Rattle.client.specs.Step.{IsClientStep, fits_talk}
use Rattle.memcached_spec.specs.Asked.{asked, TextsBy, Front}
use Rattle.client.specs.Taken.{pending, IsIdle}

-- Inputs handed in one after the other: what is kept after them, and all bytes that were given.
pub data Talks (u c : ℕ) : List Input → Talk → List ℕ → Type 0 where
  none : Talks u c [] new_talk []
  more : (inputs : List Input) (t : Talk) (given : List ℕ) (next : Input) (g : Given) → Talks u c inputs t given → IsClientStep u c t next g → Talks u c (inputs ++ next ∷ []) g.talk (given ++ g.bytes)

-- the bytes that are fed
abbrev pub piece_of : Input → List ℕ
piece_of (Feed piece) = piece.items
piece_of (Reply number reply) = []
piece_of Again = []
piece_of Hangup = []

abbrev pub bytes_fed : List Input → List ℕ
bytes_fed inputs = flat_map piece_of inputs

abbrev pub is_hangup : Input → Bool
is_hangup (Feed piece) = false
is_hangup (Reply number reply) = false
is_hangup Again = false
is_hangup Hangup = true

abbrev pub has_hung_up : List Input → Bool
has_hung_up inputs = list_any is_hangup inputs

-- the reply to the request of this number was handed in
abbrev pub WasHandedIn : List Input → ℕ → replies.Reply → Type 0
WasHandedIn inputs number reply = Contains inputs (Reply number reply)

-- What was given are the texts of the first turns that the bytes spell, in order, and the reply to each request is one that was handed in for its number.
abbrev pub GivenInOrder : Type 0
GivenInOrder = (u c : ℕ) (inputs : List Input) (t : Talk) (given : List ℕ) → Talks u c inputs t given
    → (taken : List Turn) × TextsBy (WasHandedIn inputs) 1 taken given × Front (bytes_fed inputs) taken

-- If it did not hang up, these turns, the one that is outstanding and those that wait are all that the bytes spell.
abbrev pub NoTurnIsLost : Type 0
NoTurnIsLost = (u c : ℕ) (inputs : List Input) (t : Talk) (given : List ℕ) → Talks u c inputs t given → has_hung_up inputs ≡ false
    → (taken : List Turn) × (rest : List ℕ) × TextsBy (WasHandedIn inputs) 1 taken given × Spells (bytes_fed inputs) (taken ++ (pending t.outstanding ++ t.waiting)) rest

-- What is outstanding is the client's last request, and its command the one of that number that the bytes ask.
abbrev pub OutstandingIsLast : Type 0
OutstandingIsLast = (u c : ℕ) (inputs : List Input) (t : Talk) (given : List ℕ) (a : Asked) → Talks u c inputs t given → t.outstanding ≡ Some a
    → (a.request.client ≡ client_number c) × (a.request.number ≡ t.last)
    × ((turns : List Turn) × (rest : List ℕ) × Spells (bytes_fed inputs) turns rest × (slice_get (asked turns) (t.last - 1) ≡ Some a.request.command))

-- If it is closed, nothing is outstanding and nothing waits.
abbrev pub ClosedIsIdle : Type 0
ClosedIsIdle = (u c : ℕ) (inputs : List Input) (t : Talk) (given : List ℕ) → Talks u c inputs t given → t.closed ≡ true → IsIdle t

-- an input that fits no line changes nothing, and gives nothing
abbrev pub UnfitTalkStays : Type 0
UnfitTalkStays = (u c : ℕ) (t : Talk) (input : Input) (g : Given) → fits_talk t input ≡ false → IsClientStep u c t input g → g ≡ unmoved t
