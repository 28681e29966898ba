-- The newest one so far, one after the other.
use Rattle.std.proofs.Common.{◌≡◌, ℕ, suc, ◌+◌, ◌<◌, Bool, true, false, refl, sym, ap, subst, arith, List, [], ◌∷◌, length, Option, Some, None}
use Rattle.std.specs.Prelude.{get_or, if◌then◌else◌, is_some, count_by}
use Rattle.std.proofs.lemmas.Bool.Decides.{nat_tests}
use Rattle.std.proofs.lemmas.List.{get_or_default}
use Rattle.std.proofs.lemmas.List.Sums.{sum_by-cons}
use Rattle.folders.specs.declared.stamp.SaveStamp.{SaveStamp}
use Rattle.folders.specs.Folders.{is_later_save, IsNoLater, IsNewest, IsBest, IsNewestOf, later_of}
use Rattle.folders.proofs.Majorities.{one_if}
use borrow.Author.Count.{below_more}

not_after_itself : (a : SaveStamp) → is_later_save a a ≡ false
not_after_itself a = grind (arith, nat_tests)

-- who is not after one is not after a later one
before_later : (x best new : SaveStamp) → is_later_save x best ≡ false → is_later_save new best ≡ true → is_later_save x new ≡ false
before_later x best new p q = grind (arith, nat_tests, p, q)

no_later_than_new : (o : Option SaveStamp) (best new : SaveStamp) → is_later_save new best ≡ true → IsNoLater best o → IsNoLater new o
no_later_than_new None best new q p = tt
no_later_than_new (Some x) best new q p = before_later x best new p q

unread : (stamps : List (Option SaveStamp)) (n : ℕ) (newest : Option (ℕ × SaveStamp)) → get_or stamps n None ≡ None → IsNewestOf stamps n newest → IsNewestOf stamps (n + 1) newest
unread stamps n None here p = below_more (λ k. get_or stamps k None ≡ None) n p here
unread stamps n (Some best) here p = record {
  within = (let w = p.within in omega (arith, w));
  is = p.is;
  no_later = below_more (λ k. IsNoLater best.1 (get_or stamps k None)) n p.no_later (subst (IsNoLater best.1) (sym here) tt);
}

new_best : (stamps : List (Option SaveStamp)) (n : ℕ) (stamp : SaveStamp) → get_or stamps n None ≡ Some stamp → ((k : ℕ) → k < n → IsNoLater stamp (get_or stamps k None)) → IsBest stamps (n + 1) (n, stamp)
new_best stamps n stamp here before = record {
  within = omega arith;
  is = here;
  no_later = below_more (λ k. IsNoLater stamp (get_or stamps k None)) n before (subst (IsNoLater stamp) (sym here) (not_after_itself stamp));
}

read : (stamps : List (Option SaveStamp)) (n : ℕ) (newest : Option (ℕ × SaveStamp)) (stamp : SaveStamp) → get_or stamps n None ≡ Some stamp → IsNewestOf stamps n newest → IsNewestOf stamps (n + 1) (later_of newest n (Some stamp))
read stamps n None stamp here p = new_best stamps n stamp here (λ k below. subst (IsNoLater stamp) (sym (p k below)) tt)
read stamps n (Some best) stamp here p = by (is_later_save stamp best.1) refl
  where
    by : (b : Bool) → is_later_save stamp best.1 ≡ b → IsNewestOf stamps (n + 1) (if is_later_save stamp best.1 then Some (n, stamp) else Some best)
    by true e = subst (λ (b : Bool). IsNewestOf stamps (n + 1) (if b then Some (n, stamp) else Some best)) (sym e)
        (new_best stamps n stamp here (λ k below. no_later_than_new (get_or stamps k None) best.1 stamp e (p.no_later k below)))
    by false e = subst (λ (b : Bool). IsNewestOf stamps (n + 1) (if b then Some (n, stamp) else Some best)) (sym e) (record {
      within = (let w = p.within in omega (arith, w));
      is = p.is;
      no_later = below_more (λ k. IsNoLater best.1 (get_or stamps k None)) n p.no_later (subst (IsNoLater best.1) (sym here) e);
    })

pub step : (stamps : List (Option SaveStamp)) (n : ℕ) (newest : Option (ℕ × SaveStamp)) (stamp : Option SaveStamp) → get_or stamps n None ≡ stamp → IsNewestOf stamps n newest → IsNewestOf stamps (n + 1) (later_of newest n stamp)
step stamps n newest None here p = unread stamps n newest here p
step stamps n newest (Some stamp) here p = read stamps n newest stamp here p

pub none_counts : (stamps : List (Option SaveStamp)) → ((k : ℕ) → k < length stamps → get_or stamps k None ≡ None) → count_by is_some stamps ≡ 0
none_counts [] p = refl
none_counts (s ∷ stamps) p =
    let here : one_if (is_some s) ≡ 0 = ap (λ (o : Option SaveStamp). one_if (is_some o)) (p 0 (omega arith)) in
    let rest : count_by is_some stamps ≡ 0 = none_counts stamps (λ k below. p (suc k) (omega (arith, below))) in
    let both : count_by is_some (s ∷ stamps) ≡ one_if (is_some s) + count_by is_some stamps = sum_by-cons (λ x. one_if (is_some x)) s stamps in
    omega (arith, both, here, rest)

pub is_newest : (stamps : List (Option SaveStamp)) (best : ℕ × SaveStamp) → IsBest stamps (length stamps) best → IsNewest stamps best.0
is_newest stamps best p = record {
  stamp = best.1;
  within = p.within;
  is = p.is;
  no_later = λ k d below. subst (IsNoLater best.1) (get_or_default stamps k None d below) (p.no_later k below);
}
