-- Letters that were sent, which decrees are chosen by them, and on what each decree rests.
use Rattle.std.specs.Prelude.{◌≡◌, ℕ, ◌+◌, ◌<◌, Bool, IsTrue, List, ◌∷◌, length, Some}
use Rattle.token.specs.declared.Token as token
use Rattle.decrees.specs.declared.decree.Decree.{Decree}
use Rattle.decrees.specs.declared.decree.Decree.TheVariants.{Commit, Rollback}
use Rattle.decrees.specs.declared.ballot.Ballot.{Ballot}
use Rattle.decrees.specs.declared.ballot.Ballot.TheVariants.{Token, Accepted}
use Rattle.decrees.specs.declared.node.Letter.{Letter}
use Rattle.decrees.specs.declared.node.Node.{Node}
use Rattle.decrees.specs.declared.node.Node.TheVariants.{Executor, Verifier}
use Rattle.decrees.specs.declared.standing.Standing.{Standing}
use Rattle.decrees.specs.Count.{member_count, is_quorum}
use Rattle.decrees.specs.Standing.{standing, decree_at}

abbrev pub Letters : Type 0
Letters = List (Letter Ballot)

-- among these letters is one of the node with this body
pub data Sent : Letters → Node → Ballot → Type 0 where
  here : {l : Letter Ballot} {ls : Letters} {n : Node} {b : Ballot} → l.from ≡ n → l.body ≡ b → Sent (l ∷ ls) n b
  there : {l : Letter Ballot} {ls : Letters} {n : Node} {b : Ballot} → Sent ls n b → Sent (l ∷ ls) n b

-- more than u of the members 0 to 2u, of which each has P
pub record Quorum (u : ℕ) (P : ℕ → Type 0) : Type 0 where
  pub member : ℕ → Bool
  pub enough : IsTrue (is_quorum u member)
  pub each : (v : ℕ) → v < member_count u → IsTrue (member v) → P v

-- more than u verifiers have accepted the decree for the place in this view
abbrev pub ChosenIn : ℕ → Letters → ℕ → ℕ → Decree → Type 0
ChosenIn u ls view place d = Quorum u (λ v. Sent ls (Verifier v) (Accepted view place d))

-- the decree is chosen at the place
abbrev pub Chosen : ℕ → Letters → ℕ → Decree → Type 0
Chosen u ls place d = (view : ℕ) × ChosenIn u ls view place d

-- each of these decrees is chosen at its place, from 1
abbrev pub AllChosen : ℕ → Letters → List Decree → Type 0
AllChosen u ls ds = (place : ℕ) (d : Decree) → decree_at ds place ≡ Some d → Chosen u ls place d

-- decrees are chosen at all places up to this one, and this is what they stand for
pub record StandsAt (u : ℕ) (ls : Letters) (place : ℕ) (s : Standing) : Type 0 where
  pub before : List Decree
  pub all : length before ≡ place
  pub chosen : AllChosen u ls before
  pub stands : standing before ≡ s

-- the number is the next one, and more than u executors have sent the token for it, in the standing epoch and over the standing token
pub record HasTokens (u : ℕ) (ls : Letters) (s : Standing) (n : ℕ) (t : token.Token) : Type 0 where
  pub next : n ≡ s.n + 1
  pub sent : Quorum u (λ e. Sent ls (Executor e) (Token s.epoch n s.token t))

-- what a decree needs, if these are the decrees before it
abbrev pub RestsOn : ℕ → Letters → List Decree → Decree → Type 0
RestsOn u ls before (Commit n t) = HasTokens u ls (standing before) n t
RestsOn u ls before Rollback = Unit {0}

-- there are chosen decrees at all places before this one, and the decree rests on them
pub record Backed (u : ℕ) (ls : Letters) (place : ℕ) (d : Decree) : Type 0 where
  pub before : List Decree
  pub all : length before + 1 ≡ place
  pub chosen : AllChosen u ls before
  pub rests : RestsOn u ls before d
