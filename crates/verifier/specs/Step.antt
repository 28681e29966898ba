-- The whole step: which line an input fits, and what it does.
use Rattle.std.specs.Prelude.{ℕ, Bool, true, false, nat_lt, nat_le}
use Rattle.decrees.specs.declared.ballot.Ballot.{Ballot}
use Rattle.decrees.specs.declared.ballot.Ballot.TheVariants.{Token, Accept, Accepted, Decided, Ask, Change, Promise, Stands}
use Rattle.decrees.specs.declared.node.Node.{Node}
use Rattle.decrees.specs.declared.node.Node.TheVariants.{Client, Executor, Verifier}
use Rattle.decrees.specs.Votes.{is_open}
use Rattle.verifier.specs.declared.input.Input.{Input}
use Rattle.verifier.specs.declared.input.Input.TheVariants as input
use Rattle.verifier.specs.State.{VerifierState, OutcomeView, stands, stays}
use Rattle.verifier.specs.Lines.{suspected, on_token, on_change, on_promise, on_accept, on_accepted, on_decided, on_ask, on_trim, verifier_on_stands, may_trim, is_ahead, is_fitting, is_acceptable, is_news, is_awaited, vote_key}

-- with a letter of an executor
abbrev pub of_executor : ℕ → ℕ → VerifierState → ℕ → Ballot → OutcomeView
of_executor u id s e (Token epoch n previous token) = on_token u id s e epoch n previous token
of_executor u id s e (Ask place) = on_ask id s (Executor e) place
of_executor u id s e (Accept view place d) = stays s
of_executor u id s e (Accepted view place d) = stays s
of_executor u id s e (Decided place d) = stays s
of_executor u id s e (Change view) = stays s
of_executor u id s e (Promise view count accepted) = stays s
of_executor u id s e (Stands place standing) = stays s

-- with a letter of a verifier
abbrev pub of_verifier : ℕ → ℕ → VerifierState → ℕ → Ballot → OutcomeView
of_verifier u id s v (Token epoch n previous token) = stays s
of_verifier u id s v (Accept view place d) = on_accept u id s v view place d
of_verifier u id s v (Accepted view place d) = on_accepted u id s v view place d
of_verifier u id s v (Decided place d) = on_decided u id s v place d
of_verifier u id s v (Ask place) = on_ask id s (Verifier v) place
of_verifier u id s v (Change view) = on_change id s v view
of_verifier u id s v (Promise view count accepted) = on_promise u id s v view count accepted
of_verifier u id s v (Stands place standing) = verifier_on_stands u id s place standing

-- with a letter; those of clients fit no line
abbrev pub received : ℕ → ℕ → VerifierState → Node → Ballot → OutcomeView
received u id s (Client c) body = stays s
received u id s (Executor e) body = of_executor u id s e body
received u id s (Verifier v) body = of_verifier u id s v body

abbrev pub step : ℕ → ℕ → VerifierState → Input → OutcomeView
step u id s (input.Letter l) = received u id s l.from l.body
step u id s input.Suspect = suspected u id s
step u id s (input.Trim place) = on_trim s place

abbrev pub fits_executor : VerifierState → ℕ → Ballot → Bool
fits_executor s e (Token epoch n previous token) = is_open (stands s) (vote_key e epoch n previous)
fits_executor s e (Ask place) = nat_lt 0 place
fits_executor s e (Accept view place d) = false
fits_executor s e (Accepted view place d) = false
fits_executor s e (Decided place d) = false
fits_executor s e (Change view) = false
fits_executor s e (Promise view count accepted) = false
fits_executor s e (Stands place standing) = false

abbrev pub fits_verifier : VerifierState → ℕ → Ballot → Bool
fits_verifier s v (Token epoch n previous token) = false
fits_verifier s v (Accept view place d) = is_acceptable s view place d
fits_verifier s v (Accepted view place d) = is_fitting s place d
fits_verifier s v (Decided place d) = is_news s place d
fits_verifier s v (Ask place) = nat_lt 0 place
fits_verifier s v (Change view) = nat_le s.view view
fits_verifier s v (Promise view count accepted) = is_awaited s v view
fits_verifier s v (Stands place standing) = is_ahead s place standing

-- the letter fits a line: a letter that fits none changes nothing
abbrev pub fits_letter : VerifierState → Node → Ballot → Bool
fits_letter s (Client c) body = false
fits_letter s (Executor e) body = fits_executor s e body
fits_letter s (Verifier v) body = fits_verifier s v body

abbrev pub fits_line : VerifierState → Input → Bool
fits_line s (input.Letter l) = fits_letter s l.from l.body
fits_line s input.Suspect = true
fits_line s (input.Trim place) = may_trim s place
