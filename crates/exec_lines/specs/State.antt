-- What an executor keeps, and what a step leaves.
use Rattle.std.specs.Prelude.{ℕ, zero, suc, ◌+◌, ◌-◌, ◌<◌, ◌≤◌, ◌==◌, ◌&&◌, ◌%◌, Bool, false, not, IsTrue, IfSome, List, [], ◌∷◌, ◌++◌, length, map, Option, None, nat_lt, is_none, if◌then◌else◌, refl}
use Rattle.std.specs.Coded.{Coded, code_by, coded×, coded_ℕ, coded_list, coded_option}
use Rattle.decrees.specs.declared.ballot.Ballot.{Ballot}
use Rattle.decrees.specs.declared.ballot.Ballot.TheVariants.{Token}
use Rattle.decrees.specs.declared.node.Letter.{Letter}
use Rattle.decrees.specs.declared.node.Node.{Node}
use Rattle.decrees.specs.declared.node.Node.TheVariants.{Client, Executor, Verifier}
use Rattle.decrees.specs.declared.standing.Standing.{Standing}
use Rattle.decrees.specs.Standing.{first_standing}
use Rattle.decrees.specs.Count.{member_count}
use Rattle.decrees.specs.Votes.{token_eq}
use Rattle.sessions.specs.declared.request.Request.{Request}
use Rattle.states.specs.State.{StateView, initial_state}
use Rattle.executor.specs.declared.answered.Answered.{Answered}
use Rattle.executor.specs.declared.work.Ended.{Ended}
use Rattle.executor.specs.declared.work.Ended.TheVariants.{On, Done}
use Rattle.executor.specs.Work.{TentativeView, WorkView}
use Rattle.rollback.specs.declared.chain.TheConstants.{MOST_MEMBERS}
use Rattle.rollback.specs.Chain.{ChainView, chain_tip, is_over}
use Rattle.exec_lines.specs.declared.body.Body.{Body}
use Rattle.exec_lines.specs.declared.body.Body.TheVariants as body
use Rattle.exec_lines.specs.declared.outcome.Outcome.{Outcome}

-- The first three are saved, so they stand for the record too. The rest is lost at a crash.
pub record ExecutorState : Type 0 where
  -- how many decrees it has obeyed, and what they stand for
  pub known : ℕ
  pub standing : Standing
  -- the committed state, and the tentative ones over it
  pub chain : ChainView
  -- what waits for a batch, and the batch that is executed
  pub gather : List Request
  pub work : Option WorkView

-- what a step leaves: the state, whether its record is saved before the letters leave, and these in order
pub record ExecutorOutcome : Type 0 where
  pub state : ExecutorState
  pub saves : Bool
  pub letters : List (Letter Body)

-- its state after a step, and what the step leaves to be done
abbrev pub executor_left : ExecutorState → Outcome → ExecutorOutcome
executor_left s outcome = record { state = s; saves = outcome.saves; letters = outcome.letters.items }

-- it has not yet the state that stands
abbrev pub is_behind : ExecutorState → Bool
is_behind s = nat_lt s.chain.have.number s.standing.n

-- the state is the tip, as number and token tell
abbrev pub is_tip : ChainView → StateView → Bool
is_tip c s = (s.number == (chain_tip c).number) && token_eq s.token (chain_tip c).token

-- work, or what came of it, is over the tip
abbrev pub IsOverTip : ChainView → Ended → Type 0
IsOverTip c (On w) = IsTrue (is_tip c w.base)
IsOverTip c (Done t) = IsTrue (is_over (chain_tip c) t)

-- The batch that is executed is over the tip, there is room for what it makes, and the executor is not behind.
pub record WorksOverTip (s : ExecutorState) (w : WorkView) : Type 0 where
  pub room : length s.chain.members < MOST_MEMBERS
  pub over : IsTrue (is_tip s.chain w.base)
  pub current : IsTrue (not (is_behind s))

-- What every executor keeps: epochs are numbered from 1, and what it executes is over the tip.
pub record IsExecutor (s : ExecutorState) : Type 0 where
  pub begun : 1 ≤ s.standing.epoch
  pub works : IfSome s.work (WorksOverTip s)

-- the number of the next batch
abbrev pub next_batch_number : ExecutorState → ℕ
next_batch_number s = (chain_tip s.chain).number + 1

-- the epoch is led by this executor
abbrev pub is_primary : ℕ → ℕ → ExecutorState → Bool
is_primary u id s = ((s.standing.epoch - 1) % member_count u) == id

-- a batch may be begun
abbrev pub may_begin : ExecutorState → Bool
may_begin s = not (is_behind s) && (is_none s.work && nat_lt (length s.chain.members) MOST_MEMBERS)

-- the batch of this number is the first of an epoch after the first one: it runs in batch order
abbrev pub runs_in_order : Standing → ℕ → Bool
runs_in_order st n = nat_lt 1 st.epoch && (n == st.start)

abbrev pub executor_letter : ℕ → Node → Body → Letter Body
executor_letter id to b = record { from = Executor id; to = to; body = b }

abbrev pub to_first_verifiers : ℕ → ℕ → Ballot → List (Letter Body)
to_first_verifiers id zero b = []
to_first_verifiers id (suc n) b = to_first_verifiers id n b ++ executor_letter id (Verifier n) (body.Ballot b) ∷ []

-- to all verifiers
abbrev pub to_all_verifiers : ℕ → ℕ → Ballot → List (Letter Body)
to_all_verifiers u id b = to_first_verifiers id (member_count u) b

abbrev pub to_first_executors : ℕ → ℕ → Body → List (Letter Body)
to_first_executors id zero b = []
to_first_executors id (suc n) b = to_first_executors id n b ++ (if n == id then [] else executor_letter id (Executor n) b ∷ [])

-- to all other executors
abbrev pub to_other_executors : ℕ → ℕ → Body → List (Letter Body)
to_other_executors u id b = to_first_executors id (member_count u) b

-- the token of a tentative state, to all verifiers
abbrev pub token_told : ℕ → ℕ → TentativeView → List (Letter Body)
token_told u id t = to_all_verifiers u id (Token t.batch.epoch t.after.number t.before.token t.after.token)

-- what is answered to a client
abbrev pub to_client : ℕ → Answered → Letter Body
to_client id a = executor_letter id (Client a.client) (body.Reply a.number a.reply)

abbrev pub to_clients : ℕ → List Answered → List (Letter Body)
to_clients id answered = map (to_client id) answered

-- nothing changes, and nothing is said
abbrev pub unchanged : ExecutorState → ExecutorOutcome
unchanged s = record { state = s; saves = false; letters = [] }

-- one letter, and nothing to save
abbrev pub one_letter : ℕ → ExecutorState → Node → Body → ExecutorOutcome
one_letter id s to b = record { state = s; saves = false; letters = executor_letter id to b ∷ [] }

-- what a crash leaves
abbrev pub after_crash : ExecutorState → ExecutorState
after_crash s = record { known = s.known; standing = s.standing; chain = s.chain; gather = []; work = None }

-- a new executor
abbrev pub new_executor : ExecutorState
new_executor = record { known = 0; standing = first_standing; chain = record { have = initial_state; members = [] }; gather = []; work = None }

-- an executor's state is identified by what it keeps
abbrev pub executor_code : Coded Standing → Coded ChainView → Coded Request → Coded WorkView → Coded ExecutorState
executor_code standing chain request work =
    code_by ((((ℕ × Standing) × ChainView) × List Request) × Option WorkView)
    (coded× (coded× (coded× (coded× coded_ℕ standing) chain) (coded_list request)) (coded_option work))
    (λ s. ((((s.known, s.standing), s.chain), s.gather), s.work))
    (λ p. record { known = p.0.0.0.0; standing = p.0.0.0.1; chain = p.0.0.1; gather = p.0.1; work = p.1 })
    (λ _. refl)
