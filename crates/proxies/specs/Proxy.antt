-- What a proxy keeps, and what it is in a world.
use Rattle.std.specs.Prelude.{◌≡◌, ℕ, ◌+◌, ◌==◌, Bool, false, List, [], ◌∷◌, Option, None, Some, if◌then◌else◌}
use Rattle.proto.specs.declared.command.Command.{Command}
use Rattle.proto.specs.declared.reply.Reply as replies
use Rattle.proto.specs.declared.turn.Turn.TheVariants.{Ask}
use Rattle.proto.specs.Grammar.{IsTurnText}
use Rattle.proto.specs.Text.{given_text}
use Rattle.sessions.specs.declared.request.Request.{Request}
use Rattle.client.specs.declared.asked.Asked.{Asked}
use Rattle.client.specs.declared.talk.Talk.{Talk}
use Rattle.client.specs.Talk.{Given, next_request, wants}
use Rattle.client.specs.Step.{IsFed, on_reply, on_again}

pub record ProxyView : Type 0 where
  pub client : ℕ
  pub last : ℕ
  pub asked : Option Asked

abbrev pub asks : ProxyView → Command → Bool → ProxyView
asks p command quiet = record { client = p.client; last = p.last + 1; asked = Some (record { request = next_request p.client p.last command; quiet = quiet }) }

-- the request of this number is outstanding
abbrev pub has_asked : Option Asked → ℕ → Bool
has_asked None number = false
has_asked (Some a) number = a.request.number == number

-- what is outstanding
abbrev pub request_of : Option Asked → Option Request
request_of None = None
request_of (Some a) = Some a.request

abbrev pub left_of : Option Asked → ℕ → Option Asked
left_of None number = None
left_of (Some a) number = if a.request.number == number then None else Some a

abbrev pub answers : ProxyView → ℕ → ProxyView
answers p number = record { client = p.client; last = p.last; asked = left_of p.asked number }

-- as a client's part of a world: all that it was fed is taken
abbrev pub talk_of : ProxyView → Talk
talk_of p = record { reader = record { kept = []; closed = false; held = 0 }; waiting = []; last = p.last; outstanding = p.asked; closed = false }

-- ---- laws

-- an ask is the step of a client that is fed the bytes of the turn
abbrev pub AskIsFed : Type 0
AskIsFed = (u : ℕ) (p : ProxyView) (bytes : List ℕ) (command : Command) (quiet : Bool) → p.asked ≡ None → IsTurnText bytes (Ask command quiet)
    → IsFed u p.client (talk_of p) bytes (record { talk = talk_of (asks p command quiet); letters = wants u p.client (next_request p.client p.last command); bytes = [] })

-- an answer is the step of a client to which the reply comes
abbrev pub AnswerIsReplied : Type 0
AnswerIsReplied = (u : ℕ) (p : ProxyView) (a : Asked) (reply : replies.Reply) → p.asked ≡ Some a
    → on_reply u p.client (talk_of p) a.request.number reply ≡ record { talk = talk_of (answers p a.request.number); letters = []; bytes = given_text reply a.quiet }

-- what is asked again is what a client asks again
abbrev pub AgainIsAsked : Type 0
AgainIsAsked = (u : ℕ) (p : ProxyView) (a : Asked) → p.asked ≡ Some a
    → on_again u p.client (talk_of p) ≡ record { talk = talk_of p; letters = wants u p.client a.request; bytes = [] }
