-- After a cut that gave no letter no cut would give a batch.
use Rattle.std.proofs.Common.{◌≡◌, inl, inr, ℕ, zero, suc, ◌≤◌, Bool, true, false, List, [], ◌∷◌, ◌++◌, length, Option, None, Some, refl, sym, ap, ◌∙◌, subst, arith, lit≤}
use Rattle.std.specs.Prelude.{◌&&◌, ◌==◌, not, take, filter, cond, if◌then◌else◌}
use Rattle.std.proofs.lemmas.Bool.{and_left, and_right}
use Rattle.sessions.specs.declared.request.Request.{Request}
use Rattle.sessions.specs.Fresh.{is_next}
use Rattle.decrees.specs.Count.{member_count}
use Rattle.decrees.specs.declared.ballot.Ballot.{Ballot}
use Rattle.decrees.specs.declared.node.Letter.{Letter}
use Rattle.batches.specs.declared.batch.Batch.{Batch}
use Rattle.batches.specs.declared.batch.TheConstants.{MOST_REQUESTS, GREATEST_NUMBER}
use Rattle.batches.specs.Cut.{left}
use Rattle.executor.specs.declared.work.Ended.{Ended}
use Rattle.executor.specs.declared.work.Ended.TheVariants.{On, Done}
use Rattle.rollback.specs.Chain.{chain_tip}
use Rattle.exec_lines.specs.declared.body.Body.{Body}
use Rattle.exec_lines.specs.declared.body.Body.TheVariants as body
use Rattle.exec_lines.specs.declared.input.Input.TheVariants.{Cut}
use Rattle.exec_lines.specs.Begun.{begin_of}
use Rattle.exec_lines.specs.State.{ExecutorState, unchanged, to_first_verifiers, token_told, to_other_executors, runs_in_order}
use Rattle.exec_lines.specs.Lines.{went_on, batch_of, has_number, requests_taken, cut_where, cut_batch, after_cut, ordered, may_cut, on_cut}
use Rattle.exec_node.specs.Executor.{ExecutorView}
use Rattle.slots.specs.Slot.{Slot}
use Rattle.slots.specs.declared.slot.Slot.TheVariants.{Up, Down, Gone}
use Rattle.slots.specs.Slots.{ExecutorSettles}
use Rattle.ensemble.specs.Shown.{may_give, would_cut}

-- ---- lists

module _ {X : Type 0} where
  last_none : (xs ys : List X) → xs ++ ys ≡ [] → ys ≡ []
  last_none [] ys e = e
  last_none (x ∷ xs) ys e = absurd (cc e)

  take_none : (n : ℕ) (xs : List X) → 1 ≤ n → take n xs ≡ [] → xs ≡ []
  take_none n [] some e = refl
  take_none zero (x ∷ xs) some e = absurd (omega (arith, some))
  take_none (suc n) (x ∷ xs) some e = absurd (cc e)

  filter_none : (p q : X → Bool) (xs : List X) → filter p xs ≡ [] → filter p (filter q xs) ≡ []
  filter_none p q [] e = refl
  filter_none p q (x ∷ xs) e = by (p x) (q x) refl refl (λ rest. filter_none p q xs rest)
    where
      by : (a b : Bool) → p x ≡ a → q x ≡ b → (filter p xs ≡ [] → filter p (filter q xs) ≡ []) → filter p (filter q (x ∷ xs)) ≡ []
      by true b is_p is_q rest = absurd (let some : x ∷ filter p xs ≡ [] = subst (λ (c : Bool). cond c (x ∷ filter p xs) (filter p xs) ≡ []) is_p e in cc some)
      by false true is_p is_q rest = rw (is_q, is_p) (rest (subst (λ (c : Bool). cond c (x ∷ filter p xs) (filter p xs) ≡ []) is_p e))
      by false false is_p is_q rest = rw is_q (rest (subst (λ (c : Bool). cond c (x ∷ filter p xs) (filter p xs) ≡ []) is_p e))

-- ---- letters

told_some : (id n : ℕ) (b : Ballot) → 1 ≤ n → to_first_verifiers id n b ≡ [] → ⊥
told_some id zero b some e = omega (arith, some)
told_some id (suc n) b some e = (let none = last_none (to_first_verifiers id n b) _ e in cc none)

-- ---- what is left

no_batch : (epoch n moment : ℕ) (rs : List Request) (first : 1 ≤ n) (last : n ≤ GREATEST_NUMBER) (few : length rs ≤ MOST_REQUESTS) → batch_of epoch n moment rs first last few ≡ None → rs ≡ []
no_batch epoch n moment [] first last few e = refl
no_batch epoch n moment (r ∷ rs) first last few e = absurd (cc e)

module _ (u id : ℕ) where
  ended : (s : ExecutorState) (letters : List (Letter Body)) (w : Ended) → (went_on u id s letters w).letters ≡ [] → may_give u id (went_on u id s letters w).state ≡ false
  ended s letters (On w) e = and_left _ _ (and_right _ _ (and_right _ _ refl))
  ended s letters (Done t) e = absurd (told_some id (member_count u) _ (omega arith) (last_none letters (token_told u id t) e))

  module _ (s : ExecutorState) (moment : ℕ) where
    none_taken : (has : Bool) (e : has_number s ≡ has) → cut_where s moment has e ≡ None → has ≡ true → requests_taken s ≡ []
    none_taken true e is has = no_batch _ _ _ (requests_taken s) _ _ _ is
    none_taken false e is has = absurd (cc has)

    none_left : has_number s ≡ true → requests_taken s ≡ [] → requests_taken (after_cut s) ≡ []
    none_left has none =
        let sessions = (chain_tip s.chain).sessions in
        let nobody : filter (is_next sessions) s.gather ≡ [] = take_none MOST_REQUESTS (filter (is_next sessions) s.gather) (lit≤ tt) none in
        let still : filter (is_next sessions) (left MOST_REQUESTS sessions s.gather) ≡ [] = filter_none (is_next sessions) _ s.gather nobody in
        rw has (ap (take MOST_REQUESTS) still)

    ordered_ends : (o : Option Batch) → cut_batch s moment ≡ o → (ordered u id (after_cut s) o).letters ≡ [] → may_give u id (ordered u id (after_cut s) o).state ≡ false
    ordered_ends (Some b) is e = ended (after_cut s) (to_other_executors u id (body.Order b)) (begin_of (chain_tip s.chain) b (runs_in_order s.standing b.n)) e
    ordered_ends None is e = and_right (may_cut u id (after_cut s)) _ (by (has_number s) refl)
      where
        by : (has : Bool) → has_number s ≡ has → (has_number s && not (length (requests_taken (after_cut s)) == 0)) ≡ false
        by false has = and_left _ _ has
        by true has = and_right _ _ (ap (λ (rs : List Request). not (length rs == 0)) (none_left has (none_taken (has_number s) refl is has)))

    cut_ends : (on_cut u id s moment).letters ≡ [] → may_give u id (on_cut u id s moment).state ≡ false
    cut_ends e = by (may_cut u id s) refl e
      where
        by : (may : Bool) → may_cut u id s ≡ may → (if may then ordered u id (after_cut s) (cut_batch s moment) else unchanged s).letters ≡ [] → may_give u id (if may then ordered u id (after_cut s) (cut_batch s moment) else unchanged s).state ≡ false
        by true is e = ordered_ends (cut_batch s moment) refl e
        by false is e = and_left _ _ is

pub cut_gave_nothing : (moment : ℕ) (slot now : Slot ExecutorView) → ExecutorSettles slot (Cut moment) now [] → would_cut now ≡ false
cut_gave_nothing moment (Up e) now (inl (fine, is, letters)) = ap would_cut is ∙ cut_ends e.u e.id e.state moment (sym letters)
cut_gave_nothing moment (Up e) now (inr stops) = ap would_cut stops.1.1
cut_gave_nothing moment (Down kept) now (is, none) = ap would_cut is
cut_gave_nothing moment (Gone kept) now (is, none) = ap would_cut is
