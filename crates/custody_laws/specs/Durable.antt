-- What an executor has saved, and what decrees make of it.
use Rattle.std.specs.Prelude.{◌≡◌, ◌⊎◌, ℕ, suc, ◌==◌, ◌&&◌, List, [], ◌∷◌, Bool, Option, Some, None, if◌then◌else◌}
use Rattle.token.specs.declared.Token as token
use Rattle.decrees.specs.declared.decree.Decree.{Decree}
use Rattle.decrees.specs.declared.decree.Decree.TheVariants.{Commit, Rollback}
use Rattle.decrees.specs.declared.standing.Standing.{Standing}
use Rattle.decrees.specs.Standing.{first_standing, standing_after}
use Rattle.decrees.specs.Votes.{token_eq}
use Rattle.states.specs.State.{StateView, initial_state}
use Rattle.executor.specs.Work.{TentativeView}
use Rattle.rollback.specs.Chain.{is_standing}
use Rattle.run_laws.specs.Run.{Executed, IsOver}

pub record Durable : Type 0 where
  pub known : ℕ
  pub standing : Standing
  pub have : StateView
  pub chain : List TentativeView

abbrev pub first_durable : Durable
first_durable = record { known = 0; standing = first_standing; have = initial_state; chain = [] }

abbrev pub durable_after : Durable → Decree → StateView → List TentativeView → Durable
durable_after x d have chain = record { known = suc x.known; standing = standing_after x.standing d; have = have; chain = chain }

-- a Commit of the first of the chain commits it; any other undoes the chain
abbrev pub committed : Durable → ℕ → token.Token → List TentativeView → Durable
committed x n t [] = durable_after x (Commit n t) x.have []
committed x n t (m ∷ ms) = if (m.after.number == n) && token_eq m.after.token t then durable_after x (Commit n t) m.after ms else durable_after x (Commit n t) x.have []

abbrev pub obeyed : Durable → Decree → Durable
obeyed x (Commit n t) = committed x n t x.chain
obeyed x Rollback = durable_after x Rollback x.have []

-- the state that stands, committed or of the chain, and the members after it; else there is none
abbrev pub reached_in : Standing → StateView → List TentativeView → Option (StateView × List TentativeView)
reached_in st have [] = if is_standing st have then Some (have, []) else None
reached_in st have (t ∷ ts) = if is_standing st have then Some (have, t ∷ ts) else reached_in st t.after ts

-- what is told to stand after so many decrees: it is committed up to that, and what is after it stays in the same epoch alone
abbrev pub stood_on : Durable → ℕ → Standing → Option (StateView × List TentativeView) → Durable
stood_on x place st None = record { known = place; standing = st; have = x.have; chain = [] }
stood_on x place st (Some c) = record { known = place; standing = st; have = c.0; chain = if st.epoch == x.standing.epoch then c.1 else [] }

abbrev pub durable_stood : Durable → ℕ → Standing → Durable
durable_stood x place st = stood_on x place st (reached_in st x.have x.chain)

abbrev pub executed_of : Bool → TentativeView → Executed
executed_of ordered t = record { batch = t.batch; ordered = ordered; new = t.after; replies = t.replies }

-- a tentative state that a round of this epoch made of the base
pub record IsMember (epoch : ℕ) (base : StateView) (t : TentativeView) : Type 0 where
  pub ordered : Bool
  pub over : t.before ≡ base
  pub is_round : IsOver base (executed_of ordered t)
  pub of_epoch : t.batch.epoch ≡ epoch

pub data In {X : Type 0} : X → List X → Type 0 where
  first : {x y : X} {xs : List X} → y ≡ x → In x (y ∷ xs)
  later : {x y : X} {xs : List X} → In x xs → In x (y ∷ xs)

-- the state is committed, or in the chain
abbrev pub Keeps : Durable → StateView → Type 0
Keeps x s = (x.have ≡ s) ⊎ ((t : TentativeView) × In t x.chain × (t.after ≡ s))
