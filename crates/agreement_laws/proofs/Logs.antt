-- What a log with a start has its grounds in.
use Rattle.std.proofs.Common.{◌≡◌, ℕ, zero, suc, ◌+◌, ◌-◌, ◌≤◌, List, [], ◌∷◌, ◌++◌, length, take, drop, fold, Some, None, slice_get, refl, sym, ◌∙◌, ap, subst, ⊎_elim, arith, append_assoc, nat_le}
use Rattle.std.proofs.lemmas.Bool.{cond_both, leb-false}
use Rattle.std.proofs.lemmas.List.{append-nil}
use Rattle.std.proofs.lemmas.List.Sums.{fold-append}
use Rattle.decrees.specs.declared.decree.Decree.{Decree}
use Rattle.decrees.specs.declared.standing.Standing.{Standing}
use Rattle.decrees.specs.Standing.{standing, first_standing, standing_after, decree_at}
use Rattle.decrees.specs.declared.start.Start.{Start}
use Rattle.decrees.specs.Start.{stands_from, decree_after}
use Rattle.agreement_laws.specs.Letters.{Letters, Chosen, AllChosen, StandsAt}
use Rattle.agreement_laws.proofs.Places.{at_index, index_at, at_push}

-- there are chosen decrees before the start, which it stands for, and those after it are chosen too
pub record LogOk (u : ℕ) (ls : Letters) (start : Start) (log : List Decree) : Type 0 where
  pub before : List Decree
  pub placed : length before ≡ start.place
  pub stood : standing before ≡ start.standing
  pub all : AllChosen u ls (before ++ log)

pub length_both : (xs ys : List Decree) → length (xs ++ ys) ≡ length xs + length ys
length_both [] ys = let z : length ys ≡ 0 + length ys = omega arith in z
length_both (x ∷ xs) ys = let e = length_both xs ys in omega (arith, e)

pub get_back : (xs ys : List Decree) (i : ℕ) (d : Decree) → slice_get ys i ≡ Some d → slice_get (xs ++ ys) (length xs + i) ≡ Some d
get_back [] ys i d e = let z : i ≡ 0 + i = omega arith in subst (λ k. slice_get ys k ≡ Some d) z e
get_back (x ∷ xs) ys i d e = let z : suc (length xs + i) ≡ length (x ∷ xs) + i = omega arith in subst (λ k. slice_get (x ∷ (xs ++ ys)) k ≡ Some d) z (get_back xs ys i d e)

module _ {u : ℕ} {ls : Letters} {start : Start} {log : List Decree} (l : LogOk u ls start log) where
  pub whole_length : length (l.before ++ log) ≡ start.place + length log
  whole_length = let e = length_both l.before log in omega (arith, e, l.placed)

  pub whole_stands : standing (l.before ++ log) ≡ stands_from start.standing log
  whole_stands = fold-append standing_after first_standing l.before log ∙ ap (λ (s : Standing). fold standing_after s log) l.stood

  pub log_get : (i : ℕ) (d : Decree) → slice_get log i ≡ Some d → Chosen u ls (start.place + (i + 1)) d
  log_get i d e = l.all (start.place + (i + 1)) d (index_at (l.before ++ log) (start.place + (i + 1)) (length l.before + i) d (omega (arith, l.placed)) (get_back l.before log i d e))

  pub log_at : (place : ℕ) (d : Decree) → decree_after start.place log place ≡ Some d → Chosen u ls place d
  log_at place d = cond_both (nat_le place start.place) None (slice_get log (place - (start.place + 1))) (λ o. o ≡ Some d → Chosen u ls place d)
      (λ _ h. absurd (cc))
      (λ e h.
      let above = leb-false place start.place e in
      let at : start.place + ((place - (start.place + 1)) + 1) ≡ place = omega (arith, above) in
      subst (λ p. Chosen u ls p d) at (log_get (place - (start.place + 1)) d h))

  pub log_stands : StandsAt u ls (start.place + length log) (stands_from start.standing log)
  log_stands = record { before = l.before ++ log; all = whole_length; chosen = l.all; stands = whole_stands }

  pub start_stands : StandsAt u ls start.place start.standing
  start_stands = record {
    before = l.before;
    all = l.placed;
    chosen = λ p d e. l.all p d (front p d e);
    stands = l.stood;
  }
    where
      get_front : (xs ys : List Decree) (i : ℕ) (d : Decree) → slice_get xs i ≡ Some d → slice_get (xs ++ ys) i ≡ Some d
      get_front [] ys i d e = absurd (cc e)
      get_front (x ∷ xs) ys zero d e = e
      get_front (x ∷ xs) ys (suc i) d e = get_front xs ys i d e

      front : (p : ℕ) (d : Decree) → decree_at l.before p ≡ Some d → decree_at (l.before ++ log) p ≡ Some d
      front p d e = let i = at_index l.before p d e in index_at (l.before ++ log) p (p - 1) d (omega (arith, i.0)) (get_front l.before log (p - 1) d i.1)

  pub LogOk-learn : (d : Decree) → Chosen u ls ((start.place + length log) + 1) d → LogOk u ls start (log ++ d ∷ [])
  LogOk-learn d chosen = record {
    before = l.before;
    placed = l.placed;
    stood = l.stood;
    all = subst (AllChosen u ls) (append_assoc l.before log (d ∷ []))
        (λ p b e. ⊎_elim
        (λ old. l.all p b old)
        (λ (q : (p ≡ length (l.before ++ log) + 1) × (b ≡ d)).
        let at : (start.place + length log) + 1 ≡ p = omega (arith, q.0, whole_length) in
        subst (λ (y : ℕ × Decree). Chosen u ls y.0 y.1) (λ j. (at j, sym q.1 j)) chosen)
        (at_push (l.before ++ log) d b p e));
  }

  take_drop : (n : ℕ) (xs : List Decree) → take n xs ++ drop n xs ≡ xs
  take_drop zero xs = refl
  take_drop (suc n) [] = refl
  take_drop (suc n) (x ∷ xs) = ap (λ y. x ∷ y) (take_drop n xs)

  length_take : (n : ℕ) (xs : List Decree) → n ≤ length xs → length (take n xs) ≡ n
  length_take zero xs h = refl
  length_take (suc n) [] h = absurd (omega arith)
  length_take (suc n) (x ∷ xs) h = let e = length_take n xs (omega arith) in omega (arith, e)

  -- some decrees are forgotten
  pub LogOk-trim : (n : ℕ) → n ≤ length log → LogOk u ls (record { place = start.place + n; standing = stands_from start.standing (take n log) }) (drop n log)
  LogOk-trim n within = record {
    before = l.before ++ take n log;
    placed = let e = length_both l.before (take n log) in let f = length_take n log within in omega (arith, e, f, l.placed);
    stood = fold-append standing_after first_standing l.before (take n log) ∙ ap (λ (s : Standing). fold standing_after s (take n log)) l.stood;
    all = subst (AllChosen u ls) (sym (append_assoc l.before (take n log) (drop n log) ∙ ap (λ (z : List Decree). l.before ++ z) (take_drop n log))) l.all;
  }

  pub length_trim : (n : ℕ) → n ≤ length log → (start.place + n) + length (drop n log) ≡ start.place + length log
  length_trim n within =
      let e = length_both (take n log) (drop n log) in
      let f = length_take n log within in
      let g = ap (λ (z : List Decree). length z) (take_drop n log) in
      omega (arith, e, f, g)

-- the log begins at what stands somewhere
pub LogOk-from : {u : ℕ} {ls : Letters} (place : ℕ) (s : Standing) → StandsAt u ls place s → LogOk u ls (record { place = place; standing = s }) []
LogOk-from {u} {ls} place s h = record { before = h.before; placed = h.all; stood = h.stands; all = subst (AllChosen u ls) (sym (append-nil h.before)) h.chosen }
