-- The run of decrees.
use Rattle.std.specs.Prelude.{◌≡◌, ◌⊎◌, ℕ, ◌-◌, List, [], ◌∷◌, map, take, Some, Contains}
use Rattle.token.specs.declared.Token.{Token}
use Rattle.decrees.specs.declared.decree.Decree.{Decree}
use Rattle.decrees.specs.declared.decree.Decree.TheVariants.{Commit, Rollback}
use Rattle.decrees.specs.declared.standing.Standing.{Standing}
use Rattle.decrees.specs.Standing.{standing, decree_at}
use Rattle.states.specs.State.{StateView, initial_state}
use Rattle.run_laws.specs.Met.{AreAll, IsKnown}
use Rattle.run_laws.specs.Run.{Executed, IsOver, IsRunFrom, made_in}

-- A state of this number and token that was met, and that one of the rounds that were executed made of the one that stands.
pub record IsMadeCommit (met : StateView → Type 0) (rounds : Executed → Type 0) (s : Standing) (n : ℕ) (token : Token) : Type 0 where
  pub old : StateView
  pub executed : Executed
  pub is_over : IsOver old executed
  pub known_round : rounds executed
  -- the state before is the standing one
  pub old_known : IsKnown met old
  pub old_number : old.number ≡ s.n
  pub old_token : old.token ≡ s.token
  -- and the state after is that of the Commit
  pub new_met : met executed.new
  pub new_number : executed.new.number ≡ n
  pub new_token : executed.new.token ≡ token

-- what a decree needs, if this stands before it
abbrev pub IsMade : (StateView → Type 0) → (Executed → Type 0) → Standing → Decree → Type 0
IsMade met rounds s (Commit n token) = IsMadeCommit met rounds s n token
IsMade met rounds s Rollback = Unit {0}

-- each decree has it, over what those before it stand for
abbrev pub AllMade : (StateView → Type 0) → (Executed → Type 0) → List Decree → Type 0
AllMade met rounds decrees = (place : ℕ) (d : Decree) → decree_at decrees place ≡ Some d → IsMade met rounds (standing (take (place - 1) decrees)) d

-- the number and the token of each Commit, in order
abbrev pub commits : List Decree → List (ℕ × Token)
commits [] = []
commits (Commit n token ∷ decrees) = (n, token) ∷ commits decrees
commits (Rollback ∷ decrees) = commits decrees

-- the number and the token after each round, in order
abbrev pub known_by : List Executed → List (ℕ × Token)
known_by run = map (λ e. (e.new.number, e.new.token)) run

-- The run of these decrees: its rounds follow one another from the first state, there is one for each
-- Commit, with its number and token, each was executed, and their states were met.
pub record IsRunOf (met : StateView → Type 0) (rounds : Executed → Type 0) (decrees : List Decree) (run : List Executed) : Type 0 where
  pub follows : IsRunFrom initial_state run
  pub one_each : known_by run ≡ commits decrees
  pub states_met : AreAll (made_in run) met
  pub known_rounds : AreAll run rounds

-- the state is the first, or a Commit of its number and token is among the decrees
abbrev pub IsCommitted : List Decree → StateView → Type 0
IsCommitted decrees s = (s.number ≡ 0) ⊎ Contains decrees (Commit s.number s.token)
