-- What an executor makes of what it is told to stand is what the machine's does.
use Rattle.std.proofs.Common.{◌≡◌, ℕ, ◌<◌, ◌≤◌, Bool, true, false, List, [], ◌∷◌, Option, Some, None, refl, sym, ◌∙◌, ap, subst, ⊎_elim, ◌⊎◌, arith}
use Rattle.std.specs.Prelude.{◌==◌, if◌then◌else◌, option_map, IfSome}
use Rattle.std.proofs.lemmas.Bool.{and_parts, eqb-true}
use Rattle.decrees.specs.declared.standing.Standing.{Standing}
use Rattle.decrees.specs.Votes.{token_eq}
use Rattle.states.specs.State.{StateView}
use Rattle.executor.specs.Work.{TentativeView, WorkView}
use Rattle.rollback.specs.Chain.{ChainView, undone, is_standing, chain_from, replies_on_commit}
use Rattle.rollback.proofs.StandingLemmas.{IsEndOf, end_is}
use Rattle.exec_lines.specs.State.{ExecutorState, ExecutorOutcome}
use Rattle.exec_lines.specs.Lines.{goes_on, stood_without, stood}
use Rattle.run_laws.specs.Run.{Executed}
use Rattle.custody_laws.specs.Durable.{Durable, In, first, later, reached_in, stood_on}
use Rattle.custody_laws.proofs.Kept.{Chain}
use Rattle.custody_laws.proofs.Stood.{found}
use Rattle.world_laws.specs.Ballots.{ballots}
use Rattle.one_server_laws.specs.Saved.{saved_of}
use Rattle.one_server_laws.specs.Machines.{HasWork}
use Rattle.one_server_laws.proofs.Moves.{no_replies}
use Rattle.one_server_laws.proofs.Lines.{needs_none}

-- ---- the state that stands is found alike

abbrev pub parts : ChainView → StateView × List TentativeView
parts c = (c.have, c.members)

pub reached_is : (st : Standing) (have : StateView) (ts : List TentativeView) → reached_in st have ts ≡ option_map parts (chain_from st have ts)
reached_is st have [] = by (is_standing st have)
  where
    by : (b : Bool) → (if b then Some (have, []) else None) ≡ option_map parts (if b then Some (record { have = have; members = [] }) else None)
    by true = refl
    by false = refl
reached_is st have (t ∷ ts) = by (is_standing st have) (reached_is st t.after ts)
  where
    by : (b : Bool) → reached_in st t.after ts ≡ option_map parts (chain_from st t.after ts)
        → (if b then Some (have, t ∷ ts) else reached_in st t.after ts) ≡ option_map parts (if b then Some (record { have = have; members = t ∷ ts }) else chain_from st t.after ts)
    by true h = refl
    by false h = h

-- ---- what is saved, and the work

abbrev pub IsStood : ExecutorOutcome → Durable → Type 0
IsStood o x = (saved_of o.state ≡ x) × HasWork (saved_of o.state) o.state.work

-- work stays if the epoch goes on, over a tip that is the same
work_over : (s : ExecutorState) (place : ℕ) (st : Standing) (c : ChainView) (work : Option WorkView) → IsEndOf st s.chain.have s.chain.members c → st.epoch ≡ s.standing.epoch → HasWork (saved_of s) work
    → HasWork (record { known = place; standing = st; have = c.have; chain = c.members }) work
work_over s place st c None is same ok = tt
work_over s place st c (Some w) is same ok = record {
  over = ok.over ∙ is.same;
  worked = ok.worked;
  next = ok.next;
  of_epoch = ok.of_epoch ∙ sym same;
  level = eqb-true c.have.number st.n (and_parts (c.have.number == st.n) (token_eq c.have.token st.token) is.stands).0;
}

-- the state after it, if it is known whether the epoch goes on
abbrev left_where : ExecutorState → ℕ → Standing → ChainView → Bool → ExecutorState
left_where s place st c b = record s { known = place; standing = st; chain = if b then c else undone c; work = if b then s.work else None }

pub stood_is : (u id : ℕ) (s : ExecutorState) (place : ℕ) (st : Standing) (o : Option ChainView) → chain_from st s.chain.have s.chain.members ≡ o → HasWork (saved_of s) s.work
    → IsStood (stood u id s place st o) (stood_on (saved_of s) place st (option_map parts o))
stood_is u id s place st None is ok = (refl, tt)
stood_is u id s place st (Some c) is ok = by (goes_on s st) refl
  where
    ends : IsEndOf st s.chain.have s.chain.members c
    ends = subst (λ (o : Option ChainView). IfSome o (IsEndOf st s.chain.have s.chain.members)) is (end_is st s.chain.have s.chain.members)

    by : (b : Bool) → goes_on s st ≡ b → (saved_of (left_where s place st c b) ≡ record { known = place; standing = st; have = c.have; chain = if b then c.members else [] }) × HasWork (saved_of (left_where s place st c b)) (left_where s place st c b).work
    by true same = (refl, work_over s place st c s.work ends (eqb-true st.epoch s.standing.epoch same) ok)
    by false other = (refl, tt)

pub stood_none : (u id : ℕ) (s : ExecutorState) (place : ℕ) (st : Standing) (o : Option ChainView) → ballots (stood u id s place st o).letters ≡ []
stood_none u id s place st None = needs_none u id (stood_without s place st)
stood_none u id s place st (Some c) = no_replies id (replies_on_commit st s.chain.have s.chain.members)

pub stood_saves : (u id : ℕ) (s : ExecutorState) (place : ℕ) (st : Standing) (o : Option ChainView) → (stood u id s place st o).saves ≡ true
stood_saves u id s place st None = refl
stood_saves u id s place st (Some c) = refl

-- ---- members up to the state that stands

-- the member is committed on the way there
abbrev pub IsUnder : Standing → StateView → List TentativeView → TentativeView → Type 0
IsUnder st have [] m = ⊥
IsUnder st have (t ∷ ts) m = (is_standing st have ≡ false) × ((t ≡ m) ⊎ IsUnder st t.after ts m)

pub under_in : (st : Standing) (have : StateView) (ts : List TentativeView) (m : TentativeView) → IsUnder st have ts m → In m ts
under_in st have [] m is = absurd is
under_in st have (t ∷ ts) m is = ⊎_elim (λ (same : t ≡ m). first same) (λ more. later (under_in st t.after ts m more)) is.1

-- its number is at most that of the state
pub under_low : (met : StateView → Type 0) (rounds : Executed → Type 0) (epoch : ℕ) (st : Standing) (have : StateView) (ts : List TentativeView) (c : StateView × List TentativeView) (m : TentativeView) → Chain met rounds epoch have ts
    → reached_in st have ts ≡ Some c → IsUnder st have ts m → m.after.number ≤ c.0.number
under_low met rounds epoch st have [] c m chain e is = absurd is
under_low met rounds epoch st have (t ∷ ts) c m chain e is =
    let rest : reached_in st t.after ts ≡ Some c = ap (λ (b : Bool). if b then Some (have, t ∷ ts) else reached_in st t.after ts) (sym is.0) ∙ e in
    ⊎_elim
    (λ (same : t ≡ m). ⊎_elim
    (λ (at : c.0 ≡ t.after). omega (arith, ap (λ (y : StateView). y.number) at, ap (λ (y : TentativeView). y.after.number) same))
    (λ (over : met c.0 × (t.after.number < c.0.number)). omega (arith, over.1, ap (λ (y : TentativeView). y.after.number) same))
    (found met rounds epoch st t.after ts c chain.3 rest).from)
    (λ more. under_low met rounds epoch st t.after ts c m chain.3 rest more)
    is.1
