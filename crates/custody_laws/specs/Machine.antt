-- Executors 0 to 2u by what they have saved, all ballots, and the decrees that are chosen.
use Rattle.std.specs.Prelude.{◌≡◌, ℕ, ◌<◌, ◌≤◌, List, [], ◌∷◌, ◌++◌, length, take, replicate, Some, slice_get, slice_set}
use Rattle.decrees.specs.declared.decree.Decree.{Decree}
use Rattle.decrees.specs.declared.ballot.Ballot.TheVariants.{Token}
use Rattle.decrees.specs.declared.node.Node.{Node}
use Rattle.decrees.specs.declared.node.Node.TheVariants.{Executor}
use Rattle.decrees.specs.declared.ballot.Ballot.{Ballot}
use Rattle.token.specs.declared.Token as token
use Rattle.decrees.specs.Count.{member_count}
use Rattle.decrees.specs.Standing.{standing}
use Rattle.states.specs.State.{StateView}
use Rattle.executor.specs.Work.{TentativeView}
use Rattle.run_laws.specs.Run.{Executed}
use Rattle.run_laws.specs.Met.{IsTold}
use Rattle.agreement_laws.specs.Letters.{Letters, Sent, RestsOn}
use Rattle.rollback.specs.Chain.{tip}
use Rattle.custody_laws.specs.Durable.{Durable, first_durable, obeyed, durable_stood, executed_of, IsMember, In}

-- the last two are history: the states that executors came to have, and the rounds by which they made them
pub record ExecutorMachine : Type 0 where
  pub executors : List Durable
  pub letters : Letters
  pub decrees : List Decree
  pub met : List StateView
  pub rounds : List Executed

-- what an executor says of a tentative state
abbrev pub said_of : TentativeView → Ballot
said_of t = Token t.after.epoch t.after.number t.after.previous t.after.token

-- no executor says a token in these
abbrev pub HaveNoToken : Letters → Type 0
HaveNoToken new = (e epoch n : ℕ) (previous t : token.Token) → Sent new (Executor e) (Token epoch n previous t) → ⊥

-- What may happen: letters are sent that are no tokens; a decree is chosen that rests on those before it; an executor completes a
-- tentative state over its tip; it says what is in its chain; it obeys the next decree; it is told what stands after more of them; it takes a state that has the standing token.
pub data Next (u : ℕ) (m : ExecutorMachine) : ExecutorMachine → Type 0 where
  Hear : (new : Letters) → HaveNoToken new → Next u m (record m { letters = m.letters ++ new })
  Choose : (d : Decree) → RestsOn u m.letters m.decrees d → Next u m (record m { decrees = m.decrees ++ d ∷ [] })
  Complete : (e : ℕ) (x : Durable) (t : TentativeView) → slice_get m.executors e ≡ Some x → x.have.number ≡ x.standing.n → (member : IsMember x.standing.epoch (tip x.have x.chain) t)
      → Next u m (record m { executors = slice_set m.executors e (record x { chain = x.chain ++ t ∷ [] }); met = m.met ++ t.after ∷ []; rounds = m.rounds ++ executed_of member.ordered t ∷ [] })
  Say : (e : ℕ) (x : Durable) (t : TentativeView) (to : Node) → slice_get m.executors e ≡ Some x → In t x.chain
      → Next u m (record m { letters = m.letters ++ record { from = Executor e; to = to; body = said_of t } ∷ [] })
  Obey : (e : ℕ) (x : Durable) (d : Decree) → slice_get m.executors e ≡ Some x → slice_get m.decrees x.known ≡ Some d → Next u m (record m { executors = slice_set m.executors e (obeyed x d) })
  Stand : (e : ℕ) (x : Durable) (place : ℕ) → slice_get m.executors e ≡ Some x → x.known < place → place ≤ length m.decrees → Next u m (record m { executors = slice_set m.executors e (durable_stood x place (standing (take place m.decrees))) })
  Take : (e : ℕ) (x : Durable) (s : StateView) → slice_get m.executors e ≡ Some x → x.have.number < x.standing.n → s.number ≡ x.standing.n → s.token ≡ x.standing.token → IsTold s
      → Next u m (record m { executors = slice_set m.executors e (record x { have = s; chain = [] }); met = m.met ++ s ∷ [] })

abbrev pub first_executor_machine : ℕ → ExecutorMachine
first_executor_machine u = record { executors = replicate (member_count u) first_durable; letters = []; decrees = []; met = []; rounds = [] }

-- a machine that comes of the first one, with those before it, latest first
abbrev pub Reached : ℕ → List ExecutorMachine → ExecutorMachine → Type 0
Reached u [] m = m ≡ first_executor_machine u
Reached u (before ∷ earlier) m = Reached u earlier before × Next u before m
