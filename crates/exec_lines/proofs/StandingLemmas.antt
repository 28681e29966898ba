-- What stands, as it is told: the executor stays one.
use Rattle.std.proofs.Common.{◌≡◌, ℕ, ◌≤◌, ◌+◌, Bool, true, false, Option, Some, None, Result, Ok, Err, refl, sym, subst, arith, inl, inr}
use Rattle.std.specs.Prelude.{IsTrue, IfSome, OnOk, ◌⊎◌, is_some, is_ok, not, nat_le, nat_lt, ◌==◌, ◌&&◌}
use Rattle.std.proofs.lemmas.Bool.{and_parts, eqb-true, cond-true, cond-false}
use Rattle.std.proofs.lemmas.Bool.Decides.{nat_tests}
use Rattle.std.specs.declared.alloc.AllocError.{AllocError}
use Rattle.decrees.specs.declared.standing.Standing.{Standing}
use Rattle.decrees.specs.Start.{could_stand, has_no_token, began_first}
use Rattle.decrees.specs.Votes.{token_eq}
use Rattle.states.specs.State.{StateView}
use Rattle.executor.specs.Work.{WorkView}
use Rattle.rollback.specs.Chain.{ChainView, undone, chain_from}
use Rattle.rollback.proofs.StandingLemmas.{IsEndOf, end_is}
use Rattle.exec_lines.specs.State.{ExecutorState, IsExecutor, WorksOverTip}
use Rattle.exec_lines.specs.Lines.{is_told, goes_on, stood_over}

one_at_least : (n : ℕ) → nat_le 1 n ≡ true → 1 ≤ n
one_at_least n e = grind (arith, nat_tests)

-- epochs are numbered from 1
pub told_begun : (s : ExecutorState) (place : ℕ) (st : Standing) → IsTrue (is_told s place st) → 1 ≤ st.epoch
told_begun s place st told =
    let could = (and_parts (nat_lt s.known place) (could_stand place st) told).1 in
    let rest = nat_le 1 st.start && (nat_le st.start (st.n + 1) && (has_no_token st && began_first st)) in
    let epoch = (and_parts ((st.n + st.epoch) == (place + 1)) (nat_le 1 st.epoch && rest) could).1 in
    one_at_least st.epoch (and_parts (nat_le 1 st.epoch) rest epoch).0

not_below : (a b : ℕ) → a ≡ b → IsTrue (not (nat_lt a b))
not_below a b e = grind (arith, nat_tests)

works_on : (s : ExecutorState) (place : ℕ) (st : Standing) (c : ChainView) (work : Option WorkView) → IsEndOf st s.chain.have s.chain.members c → IfSome work (WorksOverTip s)
    → IfSome work (WorksOverTip (record s { known = place; standing = st; chain = c }))
works_on s place st c None end works = tt
works_on s place st c (Some w) end works = record {
  room = omega (arith, end.fewer, works.room);
  over = subst (λ (x : StateView). IsTrue ((w.base.number == x.number) && token_eq w.base.token x.token)) end.same works.over;
  current = not_below c.have.number st.n (eqb-true c.have.number st.n (and_parts (c.have.number == st.n) (token_eq c.have.token st.token) end.stands).0);
}

-- over the end of the chain it works on
pub stays_executor : (s : ExecutorState) (place : ℕ) (st : Standing) (c : ChainView) → IsExecutor s → 1 ≤ st.epoch → chain_from st s.chain.have s.chain.members ≡ Some c
    → IsExecutor (record s { known = place; standing = st; chain = c })
stays_executor s place st c is begun from = record {
  begun = begun;
  works = works_on s place st c s.work (subst (λ (x : Option ChainView). IfSome x (IsEndOf st s.chain.have s.chain.members)) from (end_is st s.chain.have s.chain.members)) is.works;
}

-- without work it is one, whatever its chain
pub idle_executor : (s : ExecutorState) → 1 ≤ s.standing.epoch → s.work ≡ None → IsExecutor s
idle_executor s begun idle = record { begun = begun; works = subst (λ (w : Option WorkView). IfSome w (WorksOverTip s)) (sym idle) tt }

-- what is over the end stays if the epoch goes on
pub over_goes_on : (s : ExecutorState) (place : ℕ) (st : Standing) (c : ChainView) → goes_on s st ≡ true → ◌≡◌ {A = ExecutorState} (record s { known = place; standing = st; chain = c }) (stood_over s place st c)
over_goes_on s place st c on = λ i. record s { known = place; standing = st; chain = sym (cond-true (goes_on s st) c (undone c) on) i; work = sym (cond-true (goes_on s st) s.work None on) i }

pub over_ends : (s : ExecutorState) (place : ℕ) (st : Standing) (c : ChainView) → goes_on s st ≡ false → ◌≡◌ {A = ExecutorState} (record s { known = place; standing = st; chain = undone c; work = None }) (stood_over s place st c)
over_ends s place st c ends = λ i. record s { known = place; standing = st; chain = sym (cond-false (goes_on s st) c (undone c) ends) i; work = sym (cond-false (goes_on s st) s.work None ends) i }

pub from_ok : {P : Type 0} (r : Result (Unit {0}) AllocError) → is_ok r ≡ true → OnOk r P → P
from_ok (Ok x) e p = p
from_ok (Err x) e p = absurd (cc e)

-- a result that is given back, if something else holds of each that is Ok
pub ok_ends : {P Q End : Type 0} (r : Result (Unit {0}) AllocError) (b : Bool) → b ≡ is_ok r → ((b ≡ true) × End) ⊎ (b ≡ false) → (End → P → Q) → OnOk r P → OnOk r Q
ok_ends (Ok x) b is (inl ends) f p = f ends.1 p
ok_ends (Ok x) b is (inr e) f p = absurd (cc (is, e))
ok_ends (Err x) b is either f p = tt

pub has_none : {X : Type 0} (c : Option X) → is_some c ≡ false → c ≡ None
has_none None e = refl
has_none (Some x) e = absurd (cc e)
