-- One request and its response.
use Rattle.std.specs.Prelude.{◌≡◌, ℕ, List, [], ◌++◌, ◌⊎◌, length, ◌<◌}
use Rattle.httparse.specs.Grammar.{MayBecomeRequest}
use Rattle.status.specs.Answer.{IsAnswer}
use Rattle.status.specs.declared.history.Seen.{Seen}
use Rattle.status.specs.declared.wanted.TheConstants.{MOST_HEAD_BYTES}

pub record ExchangeView : Type 0 where
  pub request : List ℕ
  pub response : List ℕ
  pub written : ℕ

-- more bytes are needed
abbrev pub WaitsForMore : ExchangeView → Type 0
WaitsForMore e = (e.response ≡ []) × (length e.request < MOST_HEAD_BYTES) × MayBecomeRequest e.request

-- the piece is behind what came before, and the response is there or more bytes are needed
abbrev pub ExchangeFollows : List ℕ → List ℕ → Seen → ExchangeView → Type 0
ExchangeFollows request piece seen e =
    (e.request ≡ request ++ piece) × (e.written ≡ 0) × (WaitsForMore e ⊎ IsAnswer e.request seen e.response)
