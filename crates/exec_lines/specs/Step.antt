-- The whole step: which line an input fits, and what it does.
use Rattle.std.specs.Prelude.{◌≡◌, ℕ, ◌-◌, ◌^◌, ◌⊎◌, Bool, true, false, Option, None, Some, is_some, not}
use Rattle.decrees.specs.declared.ballot.Ballot.{Ballot}
use Rattle.decrees.specs.declared.ballot.Ballot.TheVariants.{Token, Accept, Accepted, Decided, Ask, Change, Promise, Stands}
use Rattle.decrees.specs.declared.node.Node.{Node}
use Rattle.decrees.specs.declared.node.Node.TheVariants.{Client, Executor, Verifier}
use Rattle.executor.specs.Work.{WorkView, is_group_done}
use Rattle.exec_lines.specs.declared.body.Body.{Body}
use Rattle.exec_lines.specs.declared.body.Body.TheVariants as body
use Rattle.exec_lines.specs.declared.input.Input.{Input}
use Rattle.exec_lines.specs.declared.input.Input.TheVariants as input
use Rattle.exec_lines.specs.State.{ExecutorState, ExecutorOutcome, unchanged, is_behind}
use Rattle.exec_lines.specs.Lines.{on_want, on_cut, on_order, on_step, on_finish, on_adopt, on_decree, on_need, on_parcel, may_cut, may_obey_order, work_after, may_adopt, is_heeded, has_more, on_stands, is_told}

-- with what a client sends
abbrev pub from_client : ℕ → ExecutorState → Body → ExecutorOutcome
from_client id s (body.Want r) = on_want id s r
from_client id s (body.Order b) = unchanged s
from_client id s (body.Reply number reply) = unchanged s
from_client id s (body.Need q) = unchanged s
from_client id s (body.Parcel p) = unchanged s
from_client id s (body.Ballot b) = unchanged s

-- with what an executor sends
abbrev pub from_executor : ℕ → ℕ → ExecutorState → ℕ → Body → ExecutorOutcome
from_executor u id s e (body.Want r) = unchanged s
from_executor u id s e (body.Order b) = on_order u id s b
from_executor u id s e (body.Reply number reply) = unchanged s
from_executor u id s e (body.Need q) = on_need id s e q
from_executor u id s e (body.Parcel p) = on_parcel s p
from_executor u id s e (body.Ballot b) = unchanged s

-- with a ballot of a verifier
abbrev pub on_ballot : ℕ → ℕ → ExecutorState → ℕ → Ballot → ExecutorOutcome
on_ballot u id s v (Token epoch n previous token) = unchanged s
on_ballot u id s v (Accept view place d) = unchanged s
on_ballot u id s v (Accepted view place d) = unchanged s
on_ballot u id s v (Decided place d) = on_decree u id s v place d
on_ballot u id s v (Ask place) = unchanged s
on_ballot u id s v (Change view) = unchanged s
on_ballot u id s v (Promise view count accepted) = unchanged s
on_ballot u id s v (Stands place standing) = on_stands u id s place standing

-- with what a verifier sends
abbrev pub from_verifier : ℕ → ℕ → ExecutorState → ℕ → Body → ExecutorOutcome
from_verifier u id s v (body.Want r) = unchanged s
from_verifier u id s v (body.Order b) = unchanged s
from_verifier u id s v (body.Reply number reply) = unchanged s
from_verifier u id s v (body.Need q) = unchanged s
from_verifier u id s v (body.Parcel p) = unchanged s
from_verifier u id s v (body.Ballot b) = on_ballot u id s v b

-- with a letter of this sender
abbrev pub on_letter : ℕ → ℕ → ExecutorState → Node → Body → ExecutorOutcome
on_letter u id s (Client c) b = from_client id s b
on_letter u id s (Executor e) b = from_executor u id s e b
on_letter u id s (Verifier v) b = from_verifier u id s v b

abbrev pub executor_step : ℕ → ℕ → ExecutorState → Input → ExecutorOutcome
executor_step u id s (input.Letter l) = on_letter u id s l.from l.body
executor_step u id s (input.Cut moment) = on_cut u id s moment
executor_step u id s (input.Step place) = on_step s place
executor_step u id s input.Finish = on_finish u id s
executor_step u id s (input.Adopt t) = on_adopt u id s t

-- Which inputs fit a line: the others change nothing.
abbrev pub fits_from_client : Body → Bool
fits_from_client (body.Want r) = true
fits_from_client (body.Order b) = false
fits_from_client (body.Reply number reply) = false
fits_from_client (body.Need q) = false
fits_from_client (body.Parcel p) = false
fits_from_client (body.Ballot b) = false

abbrev pub fits_from_executor : ExecutorState → Body → Bool
fits_from_executor s (body.Want r) = false
fits_from_executor s (body.Order b) = may_obey_order s b
fits_from_executor s (body.Reply number reply) = false
fits_from_executor s (body.Need q) = has_more s q
fits_from_executor s (body.Parcel p) = is_behind s
fits_from_executor s (body.Ballot b) = false

abbrev pub fits_ballot : ExecutorState → Ballot → Bool
fits_ballot s (Token epoch n previous token) = false
fits_ballot s (Accept view place d) = false
fits_ballot s (Accepted view place d) = false
fits_ballot s (Decided place d) = is_heeded s place d
fits_ballot s (Ask place) = false
fits_ballot s (Change view) = false
fits_ballot s (Promise view count accepted) = false
fits_ballot s (Stands place standing) = is_told s place standing

abbrev pub fits_from_verifier : ExecutorState → Body → Bool
fits_from_verifier s (body.Want r) = false
fits_from_verifier s (body.Order b) = false
fits_from_verifier s (body.Reply number reply) = false
fits_from_verifier s (body.Need q) = false
fits_from_verifier s (body.Parcel p) = false
fits_from_verifier s (body.Ballot b) = fits_ballot s b

abbrev pub fits_from : ExecutorState → Node → Body → Bool
fits_from s (Client c) b = fits_from_client b
fits_from s (Executor e) b = fits_from_executor s b
fits_from s (Verifier v) b = fits_from_verifier s b

abbrev pub is_at_end : Option WorkView → Bool
is_at_end None = false
is_at_end (Some w) = is_group_done w.progress

abbrev pub fits_a_line : ℕ → ℕ → ExecutorState → Input → Bool
fits_a_line u id s (input.Letter l) = fits_from s l.from l.body
fits_a_line u id s (input.Cut moment) = may_cut u id s
fits_a_line u id s (input.Step place) = is_some (work_after s.work place)
fits_a_line u id s input.Finish = is_at_end s.work
fits_a_line u id s (input.Adopt t) = may_adopt s t

-- a tentative state that is handed in and not adopted is refused
abbrev pub is_refused : ExecutorState → Input → Bool
is_refused s (input.Adopt t) = not (may_adopt s t)
is_refused s (input.Letter l) = false
is_refused s (input.Cut moment) = false
is_refused s (input.Step place) = false
is_refused s input.Finish = false

-- a counter is at its limit
abbrev pub IsCounted : ExecutorState → Type 0
IsCounted s = (s.known ≡ 2 ^ 64 - 1) ⊎ (s.standing.n ≡ 2 ^ 64 - 1) ⊎ (s.standing.epoch ≡ 2 ^ 64 - 1)
