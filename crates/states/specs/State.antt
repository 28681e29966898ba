-- A state of the server, and the token by which it is known.
use Rattle.std.specs.Prelude.{◌≡◌, ℕ, ◌<◌, ◌^◌, List, replicate, refl}
use Rattle.std.specs.FinMap.{empty}
use Rattle.std.specs.Coded.{Coded, code_by, coded×, coded_ℕ, coded_list}
use Rattle.token.specs.declared.Token.{Token}
use Rattle.token.specs.declared.form.Form.{Form}
use Rattle.token.specs.declared.form.Form.TheVariants.{Current}
use Rattle.token.specs.Digest.{digest}
use Rattle.token.specs.Digested.{DigestedView, AreDigested, sessions_digest}
use Rattle.wire.specs.declared.token.TokenText.{TokenText}
use Rattle.wire.specs.Token.{token_text}
use Rattle.wire.specs.Session.{SessionsFit}
use Rattle.sessions.specs.Fresh.{Replies}
use Rattle.items.specs.Map.{Items}
use Rattle.pages.specs.Form.{root_by, FitForm}

pub record StateView : Type 0 where
  -- how the digests in its token are computed
  pub form : Form
  -- how many batches led to it, and the token of the state before it
  pub number : ℕ
  pub previous : Token
  -- the epoch and the digest of the batch that led to it, and its moment
  pub epoch : ℕ
  pub batch : List ℕ
  pub moment : ℕ
  pub token : Token
  pub sessions : Replies
  pub items : Items

abbrev pub zeros : List ℕ
zeros = replicate 32 0

-- the state of number 0: no items, no sessions, moment 0
abbrev pub initial_state : StateView
initial_state = record { form = Current; number = 0; previous = record { 0 = zeros }; epoch = 1; batch = zeros; moment = 0; token = record { 0 = zeros }; sessions = empty; items = empty }

-- what the token of a state is the digest of
abbrev pub told_by : StateView → TokenText
told_by s = record {
  previous = s.previous.0;
  n = s.number;
  epoch = s.epoch;
  moment = s.moment;
  batch = s.batch;
  root = root_by s.form s.items;
  sessions = sessions_digest s.form s.sessions;
}

-- the token of a state, recomputed
abbrev pub token_of : StateView → List ℕ
token_of s = digest (token_text (told_by s))

-- the state with its token
abbrev pub with_token : StateView → StateView
with_token s = record s { token = record { 0 = token_of s } }

-- What every state keeps: a text of its sessions, and after the first state the token of its parts.
pub record IsState (s : StateView) : Type 0 where
  pub sessions_fit : SessionsFit s.sessions
  pub form_fit : FitForm s.form s.items
  -- a batch number has room for the stamps of its requests
  pub few : s.number < 2 ^ 58
  pub first : s.number ≡ 0 → s ≡ initial_state
  pub token : 0 < s.number → s ≡ with_token s

-- A state, and beside it the digest of its sessions.
pub record IsStateBeside (digested : DigestedView) (s : StateView) : Type 0 where
  pub state : IsState s
  pub sessions : AreDigested s.form s.sessions digested

-- a state is identified by its parts
abbrev pub state_code : Coded Form → Coded Token → Coded Replies → Coded Items → Coded StateView
state_code form token sessions items =
    code_by ((((((((Form × ℕ) × Token) × ℕ) × List ℕ) × ℕ) × Token) × Replies) × Items)
    (coded× (coded× (coded× (coded× (coded× (coded× (coded× (coded× form coded_ℕ) token) coded_ℕ) (coded_list coded_ℕ)) coded_ℕ) token) sessions) items)
    (λ s. ((((((((s.form, s.number), s.previous), s.epoch), s.batch), s.moment), s.token), s.sessions), s.items))
    (λ p. record { form = p.0.0.0.0.0.0.0.0; number = p.0.0.0.0.0.0.0.1; previous = p.0.0.0.0.0.0.1; epoch = p.0.0.0.0.0.1; batch = p.0.0.0.0.1; moment = p.0.0.0.1; token = p.0.0.1; sessions = p.0.1; items = p.1 })
    (λ _. refl)
