-- One decree more of a log, and a log that has forgotten its first ones.
use Rattle.std.proofs.Common.{◌≡◌, ℕ, zero, suc, ◌+◌, ◌-◌, ◌<◌, ◌≤◌, Bool, true, false, not, List, [], ◌∷◌, ◌++◌, length, take, drop, get_or, refl, sym, ap, ◌∙◌, subst, arith, ◌^◌, IsTrue}
use Rattle.std.specs.Prelude.{◌&&◌}
use Rattle.std.proofs.lemmas.Bool.{and_parts, and_from}
use Rattle.std.proofs.lemmas.List.{append-nil, take_more, drop_more, length-append, length-take-le, length-drop}
use Rattle.std.proofs.lemmas.List.Concat.{flat_map-append}
use Rattle.std.proofs.lemmas.List.Sums.{fold_push}
use Rattle.std.proofs.lemmas.Bool.Decides.{nat_tests}
use Rattle.decrees.specs.declared.decree.Decree.{Decree}
use Rattle.decrees.specs.declared.decree.Decree.TheVariants.{Commit, Rollback}
use Rattle.decrees.specs.declared.standing.Standing.{Standing}
use Rattle.decrees.specs.declared.start.Start.{Start}
use Rattle.decrees.specs.Standing.{standing_after, may_follow, is_log_from}
use Rattle.decrees.specs.Start.{stands_from, could_stand}
use Rattle.decrees.specs.Record.{decree_text, decrees_text}
use Rattle.decrees.specs.Log.{IsStandingOf, IsKept}
use Rattle.decrees.proofs.CouldStand.{could_parts, stands_later}
use Rattle.decrees.proofs.GrowthLemmas.{by_one}

pub stands_at_start : (start : Start) → could_stand start.place start.standing ≡ true → IsStandingOf start [] start.standing
stands_at_start start could =
    let c = could_parts start.place start.standing could in
    record { is_standing = refl; begun = c.begun; counted = omega (arith, c.counted); from_next = c.next }

pub Stands-learn : (start : Start) (log : List Decree) (s : Standing) (d : Decree) → IsStandingOf start log s → may_follow s d ≡ true → IsStandingOf start (log ++ d ∷ []) (standing_after s d)
Stands-learn start log s (Commit n token) k e =
    let longer : length (log ++ Commit n token ∷ []) ≡ length log + 1 = length-append log (Commit n token ∷ []) in
    let number : n ≡ s.n + 1 = grind (arith, nat_tests) in
    record {
      is_standing = ap (λ z. standing_after z (Commit n token)) k.is_standing ∙ sym (fold_push standing_after start.standing log (Commit n token));
      begun = k.begun;
      counted = omega (arith, k.counted);
      from_next = omega (arith, k.from_next);
    }
Stands-learn start log s Rollback k e =
    let longer : length (log ++ Rollback ∷ []) ≡ length log + 1 = length-append log (Rollback ∷ []) in
    record {
      is_standing = ap (λ z. standing_after z Rollback) k.is_standing ∙ sym (fold_push standing_after start.standing log Rollback);
      begun = omega arith;
      counted = omega (arith, k.counted);
      from_next = omega arith;
    }

-- the next decree among those that are known
pub Stands-take : (start : Start) (xs : List Decree) (s : Standing) (i : ℕ) (z : Decree) → i < length xs → IsStandingOf start (take i xs) s → may_follow s (get_or xs i z) ≡ true → IsStandingOf start (take (i + 1) xs) (standing_after s (get_or xs i z))
Stands-take start xs s i z below k e =
    subst (λ ys. IsStandingOf start ys (standing_after s (get_or xs i z))) (sym (take_more xs i z below)) (Stands-learn start (take i xs) s (get_or xs i z) k e)

-- what is left to test, if the next one passes
pub is_log_from-next : (s : Standing) (xs : List Decree) (i : ℕ) (z : Decree) → i < length xs → may_follow s (get_or xs i z) ≡ true → is_log_from s (drop i xs) ≡ is_log_from (standing_after s (get_or xs i z)) (drop (i + 1) xs)
is_log_from-next s xs i z below e =
    ap (is_log_from s) (drop_more xs i z below)
    ∙ ap (λ b. b && is_log_from (standing_after s (get_or xs i z)) (drop (i + 1) xs)) e

pub Kept-learn : (start : Start) (log : List Decree) (s : Standing) (d : Decree) → IsKept start log s → may_follow s d ≡ true → length log + 1 < 2 ^ 32 → ((start.place + length log) + 1) + 1 < 2 ^ 64 → IsKept start (log ++ d ∷ []) (standing_after s d)
Kept-learn start log s d k e few placed =
    let longer : length (log ++ d ∷ []) ≡ length log + 1 = length-append log (d ∷ []) in
    record {
      begins = k.begins;
      is_log = subst IsTrue (sym (by_one start.standing log d)) (and_from (is_log_from start.standing log) (may_follow (stands_from start.standing log) d) k.is_log (subst (λ z. may_follow z d ≡ true) k.stands.is_standing e));
      stands = Stands-learn start log s d k.stands e;
      few = omega arith;
      placed = omega arith;
    }

-- the first decrees of a log, and those after them
pub is_log_from-take : (s : Standing) (xs : List Decree) (n : ℕ) → is_log_from s xs ≡ true → is_log_from s (take n xs) ≡ true
is_log_from-take s xs zero h = refl
is_log_from-take s [] (suc n) h = refl
is_log_from-take s (d ∷ ds) (suc n) h =
    let p = and_parts (may_follow s d) (is_log_from (standing_after s d) ds) h in
    and_from (may_follow s d) (is_log_from (standing_after s d) (take n ds)) p.0 (is_log_from-take (standing_after s d) ds n p.1)

pub is_log_from-drop : (s : Standing) (xs : List Decree) (n : ℕ) → is_log_from s xs ≡ true → is_log_from (stands_from s (take n xs)) (drop n xs) ≡ true
is_log_from-drop s xs zero h = h
is_log_from-drop s [] (suc n) h = refl
is_log_from-drop s (d ∷ ds) (suc n) h =
    let p = and_parts (may_follow s d) (is_log_from (standing_after s d) ds) h in
    is_log_from-drop (standing_after s d) ds n p.1

pub stands_from-drop : (s : Standing) (xs : List Decree) (n : ℕ) → stands_from (stands_from s (take n xs)) (drop n xs) ≡ stands_from s xs
stands_from-drop s xs zero = refl
stands_from-drop s [] (suc n) = refl
stands_from-drop s (d ∷ ds) (suc n) = stands_from-drop (standing_after s d) ds n

pub both_ways : (b : Bool) → b ≡ true → IsTrue (not b) → ⊥
both_ways true p q = cc q
both_ways false p q = cc p

abbrev trimmed_start : Start → List Decree → ℕ → Start
trimmed_start start log place = record { place = place; standing = stands_from start.standing (take (place - start.place) log) }

pub Kept-trim : (start : Start) (log : List Decree) (s : Standing) (place : ℕ) → start.place ≤ place → place ≤ start.place + length log → IsKept start log s → IsKept (trimmed_start start log place) (drop (place - start.place) log) s
Kept-trim start log s place after known k =
    let n = place - start.place in
    let first : length (take n log) ≡ n = length-take-le n log (omega arith) in
    let rest : length (drop n log) ≡ length log - n = length-drop n log in
    let at : start.place + length (take n log) ≡ place = omega arith in
    record {
      begins = subst (λ p. could_stand p (stands_from start.standing (take n log)) ≡ true) at (stands_later start.place start.standing (take n log) k.begins (is_log_from-take start.standing log n k.is_log));
      is_log = is_log_from-drop start.standing log n k.is_log;
      stands = record {
        is_standing = k.stands.is_standing ∙ sym (stands_from-drop start.standing log n);
        begun = k.stands.begun;
        counted = omega (arith, k.stands.counted);
        from_next = k.stands.from_next;
      };
      few = omega (arith, k.few);
      placed = omega (arith, k.placed);
    }

-- the same of a list that is joined of two
pub is_log_from-front : (s : Standing) (xs ys : List Decree) → is_log_from s (xs ++ ys) ≡ true → is_log_from s xs ≡ true
is_log_from-front s [] ys h = refl
is_log_from-front s (d ∷ ds) ys h =
    let p = and_parts (may_follow s d) (is_log_from (standing_after s d) (ds ++ ys)) h in
    and_from (may_follow s d) (is_log_from (standing_after s d) ds) p.0 (is_log_from-front (standing_after s d) ds ys p.1)

pub is_log_from-back : (s : Standing) (xs ys : List Decree) → is_log_from s (xs ++ ys) ≡ true → is_log_from (stands_from s xs) ys ≡ true
is_log_from-back s [] ys h = h
is_log_from-back s (d ∷ ds) ys h = is_log_from-back (standing_after s d) ds ys (and_parts (may_follow s d) (is_log_from (standing_after s d) (ds ++ ys)) h).1

-- the text of one decree more
pub texts_push : (log : List Decree) (d : Decree) → decrees_text (log ++ d ∷ []) ≡ decrees_text log ++ decree_text d
texts_push log d = flat_map-append decree_text log (d ∷ []) ∙ ap (λ (xs : List ℕ). decrees_text log ++ xs) (append-nil (decree_text d))
