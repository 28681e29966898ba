-- How work begins and goes on is a function of the work, and what comes of it is over the tip.
use Rattle.std.proofs.Common.{◌≡◌, ℕ, ◌≤◌, Bool, true, false, List, Option, Some, None, refl, sym, ap, ◌∙◌, arith, cond}
use Rattle.std.specs.Prelude.{IsTrue, ◌==◌}
use Rattle.std.proofs.lemmas.Bool.{and_from}
use Rattle.std.proofs.lemmas.Bool.Decides.{nat_tests}
use Rattle.std.proofs.lemmas.Slice.Eq.{bytes_eq-Decides}
use Rattle.batches.specs.declared.batch.Batch.{Batch}
use Rattle.states.specs.State.{StateView}
use Rattle.executor.specs.declared.work.Ended.{Ended}
use Rattle.executor.specs.declared.work.Ended.TheVariants.{On, Done}
use Rattle.executor.specs.BatchRequest.{BatchRequest}
use Rattle.executor.specs.Ends.{Begins, Goes, MovesOn}
use Rattle.executor.specs.Work.{WorkView, IsNextGroup, IsLast, comes_after, least_of, all_begun, is_group_done}
use Rattle.executor.proofs.PartialLemmas.{each-of-all}
use Rattle.executor.proofs.GroupLemmas.{least_is_next, none_is_last}
use Rattle.rollback.specs.Chain.{ChainView, chain_tip}
use Rattle.exec_lines.specs.Begun.{begin_of, begun_at, finish_of, moved_on}
use Rattle.exec_lines.specs.State.{IsOverTip, is_tip}

clash : (b : Bool) → b ≡ true → b ≡ false → ⊥
clash true p q = cc q
clash false p q = cc p

below : (xs : List BatchRequest) (last : Option ℕ) (n m : ℕ) → IsNextGroup xs last n → IsNextGroup xs last m → n ≤ m
below xs last n m h a =
    let u = each-of-all (λ r. comes_after last r.group ≡ true → n ≤ r.group) xs h.least a.index a.request a.there (ap (comes_after last) a.its ∙ a.above) in
    omega (arith, u, a.its)

not_last : (xs : List BatchRequest) (last : Option ℕ) (n : ℕ) → IsNextGroup xs last n → IsLast xs last → ⊥
not_last xs last n h l = clash (comes_after last h.request.group) (ap (comes_after last) h.its ∙ h.above) (each-of-all (λ r. comes_after last r.group ≡ false) xs l h.index h.request h.there)

-- the first of the groups that come after one is the least of them
next_is_least : (last : Option ℕ) (xs : List BatchRequest) (n : ℕ) → IsNextGroup xs last n → least_of last None xs ≡ Some n
next_is_least last xs n h = by (least_of last None xs) refl
  where
    by : (o : Option ℕ) → least_of last None xs ≡ o → least_of last None xs ≡ Some n
    by (Some m) e =
        let a = least_is_next last xs m e in
        let up = below xs last n m h a in
        let down = below xs last m n a h in
        let same : m ≡ n = omega (arith, up, down) in
        e ∙ ap (λ k. Some k) same
    by None e = absurd (not_last xs last n h (none_is_last last xs e))

last_has_none : (last : Option ℕ) (xs : List BatchRequest) → IsLast xs last → least_of last None xs ≡ None
last_has_none last xs l = by (least_of last None xs) refl
  where
    by : (o : Option ℕ) → least_of last None xs ≡ o → least_of last None xs ≡ None
    by (Some m) e = absurd (not_last xs last m (least_is_next last xs m e) l)
    by None e = e

begins_is : (base : StateView) (batch : Batch) (ordered : Bool) (ended : Ended) → Begins base batch ordered ended → ended ≡ begin_of base batch ordered
begins_is base batch ordered (On w) h = ap (λ v. On v) h.0 ∙ sym (ap (begun_at base batch ordered) (next_is_least None (all_begun base batch ordered) w.progress.group h.1))
begins_is base batch ordered (Done t) h = ap (λ u. Done u) h.1 ∙ sym (ap (λ (rs : List BatchRequest). begun_at base batch ordered (least_of None None rs)) h.0)

pub goes_is : (w : WorkView) (ended : Ended) → Goes w ended → ended ≡ finish_of w
goes_is w (On now) h = by (is_group_done w.progress) h
  where
    by : (b : Bool) → MovesOn b w now → On now ≡ cond b (moved_on w (least_of (Some w.progress.group) None w.progress.running)) (On w)
    by false h = ap (λ v. On v) h
    by true h = ap (λ v. On v) h.1 ∙ sym (ap (moved_on w) (next_is_least (Some w.progress.group) w.progress.running now.progress.group h.0))
goes_is w (Done t) h =
    ap (λ u. Done u) h.2 ∙ sym (ap (moved_on w) (last_has_none (Some w.progress.group) w.progress.running h.1))
    ∙ sym (ap (λ b. cond b (moved_on w (least_of (Some w.progress.group) None w.progress.running)) (On w)) h.0)

-- over a base whose state it is
pub begins_over : (base tip : StateView) (batch : Batch) (ordered may : Bool) (ended : Ended) → Begins base batch ordered ended → base ≡ tip → ordered ≡ may → ended ≡ begin_of tip batch may
begins_over base tip batch ordered may ended h b o = begins_is base batch ordered ended h ∙ (λ i. begin_of (b i) batch (o i))

same : (n : ℕ) → (n == n) ≡ true
same n = grind (arith, nat_tests)

-- the tip is the tip
pub tip_is_tip : (c : ChainView) → is_tip c (chain_tip c) ≡ true
tip_is_tip c = and_from _ _ (same (chain_tip c).number) ((bytes_eq-Decides (chain_tip c).token.0 (chain_tip c).token.0).1 refl)

-- what a batch begins with over the tip is over the tip
pub begin_is_over : (c : ChainView) (batch : Batch) (ordered : Bool) → IsOverTip c (begin_of (chain_tip c) batch ordered)
begin_is_over c batch ordered = by (least_of None None (all_begun (chain_tip c) batch ordered))
  where
    by : (o : Option ℕ) → IsOverTip c (begun_at (chain_tip c) batch ordered o)
    by (Some group) = tip_is_tip c
    by None = tip_is_tip c

-- and so it stays
pub finish_is_over : (c : ChainView) (w : WorkView) → IsTrue (is_tip c w.base) → IsOverTip c (finish_of w)
finish_is_over c w over = at (is_group_done w.progress)
  where
    by : (o : Option ℕ) → IsOverTip c (moved_on w o)
    by (Some group) = over
    by None = over

    at : (b : Bool) → IsOverTip c (cond b (moved_on w (least_of (Some w.progress.group) None w.progress.running)) (On w))
    at true = by (least_of (Some w.progress.group) None w.progress.running)
    at false = over
