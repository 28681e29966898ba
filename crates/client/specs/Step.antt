-- What a client's part of the server does with each input, line by line.
use Rattle.std.specs.Prelude.{◌≡◌, ℕ, ◌^◌, ◌==◌, Bool, true, false, not, List, [], ◌++◌, Option, Some, None, is_some, if◌then◌else◌}
use Rattle.proto.specs.declared.reply.Reply as replies
use Rattle.proto.specs.declared.turn.Turn.{Turn}
use Rattle.proto.specs.Reader.{Reading, ReadsTurns}
use Rattle.proto.specs.Text.{given_text}
use Rattle.client.specs.declared.asked.Asked.{Asked}
use Rattle.client.specs.declared.input.Input.{Input}
use Rattle.client.specs.declared.input.Input.TheVariants.{Feed, Reply, Again, Hangup}
use Rattle.client.specs.declared.talk.Talk.{Talk}
use Rattle.client.specs.Talk.{Given, wants, unmoved, go_on}

-- What a reader makes of a piece: the turns that end in it; after a Close there are none.
abbrev pub IsReadOn : Bool → Reading → List ℕ → List Turn → Reading → Type 0
IsReadOn true old piece turns now = (turns ≡ []) × (now ≡ old)
IsReadOn false old piece turns now = ReadsTurns (old.kept ++ piece) turns now

abbrev pub IsRead : Reading → List ℕ → List Turn → Reading → Type 0
IsRead old piece turns now = IsReadOn old.closed old piece turns now

-- The turns that end in a piece wait behind the others, and it goes on.
abbrev pub fed : ℕ → ℕ → Talk → List Turn → Reading → Given
fed u c t turns now = go_on u c (record t { reader = now; waiting = t.waiting ++ turns }) []

abbrev pub IsFedWhere : Bool → ℕ → ℕ → Talk → List ℕ → Given → Type 0
IsFedWhere true u c t piece g = g ≡ unmoved t
IsFedWhere false u c t piece g = (turns : List Turn) × (now : Reading) × IsRead t.reader piece turns now × (g ≡ fed u c t turns now)

-- A piece of the client's bytes comes. If it is closed, nothing is read.
abbrev pub IsFed : ℕ → ℕ → Talk → List ℕ → Given → Type 0
IsFed u c t piece g = IsFedWhere t.closed u c t piece g

-- the request of this number is outstanding
abbrev pub is_asked : Option Asked → ℕ → Bool
is_asked None number = false
is_asked (Some asked) number = asked.request.number == number

abbrev pub answered_to : ℕ → ℕ → Talk → ℕ → replies.Reply → Option Asked → Given
answered_to u c t number reply None = unmoved t
answered_to u c t number reply (Some asked) =
    if asked.request.number == number then go_on u c (record t { outstanding = None }) (given_text reply asked.quiet) else unmoved t

-- A reply to the request of this number comes. If that one is outstanding the text of the reply is given, and it goes on.
abbrev pub on_reply : ℕ → ℕ → Talk → ℕ → replies.Reply → Given
on_reply u c t number reply = answered_to u c t number reply t.outstanding

abbrev pub asked_again : ℕ → ℕ → Talk → Option Asked → Given
asked_again u c t None = unmoved t
asked_again u c t (Some asked) = record { talk = t; letters = wants u c asked.request; bytes = [] }

-- What is outstanding is asked again.
abbrev pub on_again : ℕ → ℕ → Talk → Given
on_again u c t = asked_again u c t t.outstanding

-- The connection is at its end: nothing waits and nothing is outstanding.
abbrev pub on_hangup : Talk → Given
on_hangup t = unmoved (record t { waiting = []; outstanding = None; closed = true })

-- The written step of an input.
abbrev pub IsClientStep : ℕ → ℕ → Talk → Input → Given → Type 0
IsClientStep u c t (Feed piece) g = IsFed u c t piece.items g
IsClientStep u c t (Reply number reply) g = g ≡ on_reply u c t number reply
IsClientStep u c t Again g = g ≡ on_again u c t
IsClientStep u c t Hangup g = g ≡ on_hangup t

-- the input fits a line
abbrev pub fits_talk : Talk → Input → Bool
fits_talk t (Feed piece) = not t.closed
fits_talk t (Reply number reply) = is_asked t.outstanding number
fits_talk t Again = is_some t.outstanding
fits_talk t Hangup = true

-- it needs a request for which there is no number left
abbrev pub IsOutOfNumbers : ℕ → ℕ → Talk → Input → Type 0
IsOutOfNumbers u c t input = (g : Given) × IsClientStep u c t input g × (g.talk.last ≡ 2 ^ 64)
