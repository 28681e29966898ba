-- What is noted of the row at the front, and then of the rest, is noted of all.
use Rattle.std.proofs.Common.{◌≡◌, inl, inr, ℕ, suc, ◌+◌, ◌<◌, ◌≤◌, true, false, cond, List, [], ◌∷◌, ◌++◌, length, take, drop, Option, None, Some, refl, sym, ap, ◌∙◌, subst, arith, append-nil, append_assoc}
use Rattle.std.specs.Prelude.{◌==◌, if◌then◌else◌, nat_lt}
use Rattle.std.proofs.lemmas.Bool.Decides.{nat_tests}
use Rattle.std.proofs.lemmas.List.{length-drop}
use Rattle.items.specs.declared.item.Item.{Item}
use Rattle.sqlite_value.specs.Order.{Row}
use Rattle.item_rows.specs.Row.{row_number_of}
use Rattle.item_rows.specs.RowItems.{RowItems, row_of_items}
use Rattle.item_rows.specs.Changes.{or_first}
use Rattle.item_rows.specs.Rising.{AllFrom, AreRising}
use Rattle.item_rows.specs.Changed.{in_row, at_front, row_number_at_front, lower_row_number, row_told, IsNotedAt, AreNoted, IsNoteOf}

abbrev pub Entries : Type 0
Entries = List (List ℕ × Item)

pub eq_true : (n m : ℕ) → (n == m) ≡ true → n ≡ m
eq_true n m h = grind (arith, nat_tests)

eq_same : (n : ℕ) → (n == n) ≡ true
eq_same n = grind (arith, nat_tests)

eq_above : (p low n : ℕ) → p < low → low ≤ n → (n == p) ≡ false
eq_above p low n h k = grind (arith, nat_tests)

eq_other : (n p q : ℕ) → (n == p) ≡ true → (q == p) ≡ false → (n == q) ≡ false
eq_other n p q h k = grind (arith, nat_tests)

strictly : (n p : ℕ) → p ≤ n → (n == p) ≡ false → p < n
strictly n p h k = grind (arith, nat_tests)

lt_true : (n m : ℕ) → nat_lt n m ≡ true → n < m
lt_true n m h = grind (arith, nat_tests)

lt_false : (n m : ℕ) → nat_lt n m ≡ false → m ≤ n
lt_false n m h = grind (arith, nat_tests)

from_lower : (low high : ℕ) (es : Entries) → low ≤ high → AllFrom row_number_of high es → AllFrom row_number_of low es
from_lower low high [] h a = tt
from_lower low high (e ∷ es) h a = (omega (arith, h, a.0), from_lower low high es h a.1)

-- nothing is in a row below all
none_from : (p low : ℕ) (es : Entries) → p < low → AllFrom row_number_of low es → in_row p es ≡ []
none_from p low [] h a = refl
none_from p low (e ∷ es) h a = ap (λ b. cond b (e ∷ in_row p es) (in_row p es)) (eq_above p low (row_number_of e.0) h a.0) ∙ none_from p low es h a.1

-- The first entries, so many, are the group of a row, and the rest is above it.
record IsFront (p : ℕ) (es : Entries) (n : ℕ) (group : Entries) : Type 0 where
  taken : take n es ≡ group
  rises : AreRising row_number_of (drop n es)
  above : AllFrom row_number_of (suc p) (drop n es)
  same : (q : ℕ) → (q == p) ≡ false → in_row q (drop n es) ≡ in_row q es

front : (p : ℕ) (es : Entries) → AllFrom row_number_of p es → AreRising row_number_of es → IsFront p es (at_front p es) (in_row p es)
front p [] a r = record { taken = refl; rises = tt; above = tt; same = λ q h. refl }
front p (e ∷ es) a r =
    elim (row_number_of e.0 == p) as (λ b. (row_number_of e.0 == p) ≡ b → IsFront p (e ∷ es) (if b then suc (at_front p es) else 0) (cond b (e ∷ in_row p es) (in_row p es))) [
      | true ↦ λ is. here is (front p es a.1 r.1)
      | false ↦ λ is. none is
    ] refl
  where
    here : (row_number_of e.0 == p) ≡ true → IsFront p es (at_front p es) (in_row p es) → IsFront p (e ∷ es) (suc (at_front p es)) (e ∷ in_row p es)
    here is below = record {
      taken = ap (λ xs. e ∷ xs) below.taken;
      rises = below.rises;
      above = below.above;
      same = λ q h. below.same q h ∙ sym (ap (λ b. cond b (e ∷ in_row q es) (in_row q es)) (eq_other (row_number_of e.0) p q is h));
    }

    none : (row_number_of e.0 == p) ≡ false → IsFront p (e ∷ es) 0 (in_row p es)
    none is =
        let lt = strictly (row_number_of e.0) p a.0 is in
        record {
          taken = sym (none_from p (row_number_of e.0) es lt r.0);
          rises = r;
          above = (lt, from_lower (suc p) (row_number_of e.0) es lt r.0);
          same = λ q h. refl;
        }

some_front : (p : ℕ) (e : List ℕ × Item) (es : Entries) → row_number_of e.0 ≡ p → 0 < at_front p (e ∷ es)
some_front p e es is = subst (λ b. 0 < (if b then suc (at_front p es) else 0)) (sym (ap (λ n. n == p) is ∙ eq_same p)) (omega arith)

no_front : (p : ℕ) (es : Entries) → in_row p es ≡ [] → at_front p es ≡ 0
no_front p [] h = refl
no_front p (e ∷ es) h =
    elim (row_number_of e.0 == p) as (λ b. cond b (e ∷ in_row p es) (in_row p es) ≡ [] → (if b then suc (at_front p es) else 0) ≡ 0) [ true ↦ λ is. absurd (cc is) | false ↦ λ is. refl ] h

-- No entry is below the next row, and some are there.
record IsNext (p : ℕ) (old new : Entries) : Type 0 where
  olds : AllFrom row_number_of p old
  news : AllFrom row_number_of p new
  some : 0 < at_front p old + at_front p new

all_first : (p : ℕ) (e : List ℕ × Item) (es : Entries) → p ≤ row_number_of e.0 → AreRising row_number_of (e ∷ es) → AllFrom row_number_of p (e ∷ es)
all_first p e es h r = (h, from_lower p (row_number_of e.0) es h r.0)

next : (p : ℕ) (old new : Entries) → lower_row_number (row_number_at_front old) (row_number_at_front new) ≡ Some p → AreRising row_number_of old → AreRising row_number_of new → IsNext p old new
next p [] [] h r s = absurd (cc h)
next p [] (f ∷ new) h r s =
    let is : row_number_of f.0 ≡ p = cc h in
    record { olds = tt; news = all_first p f new (omega (arith, is)) s; some = omega (arith, some_front p f new is) }
next p (e ∷ old) [] h r s =
    let is : row_number_of e.0 ≡ p = cc h in
    record { olds = all_first p e old (omega (arith, is)) r; news = tt; some = omega (arith, some_front p e old is) }
next p (e ∷ old) (f ∷ new) h r s =
    elim (nat_lt (row_number_of f.0) (row_number_of e.0)) as (λ b. nat_lt (row_number_of f.0) (row_number_of e.0) ≡ b → Some (if b then row_number_of f.0 else row_number_of e.0) ≡ Some p → IsNext p (e ∷ old) (f ∷ new)) [
      | true ↦ λ b h. (let is : row_number_of f.0 ≡ p = cc h in let lt = lt_true (row_number_of f.0) (row_number_of e.0) b in
          record { olds = all_first p e old (omega (arith, is, lt)) r; news = all_first p f new (omega (arith, is)) s; some = omega (arith, some_front p f new is) })
      | false ↦ λ b h. (let is : row_number_of e.0 ≡ p = cc h in let le = lt_false (row_number_of f.0) (row_number_of e.0) b in
          record { olds = all_first p e old (omega (arith, is)) r; news = all_first p f new (omega (arith, is, le)) s; some = omega (arith, some_front p e old is) })
    ] refl h

-- the row that comes next has entries at the front
some_next : (p : ℕ) (old new : Entries) → lower_row_number (row_number_at_front old) (row_number_at_front new) ≡ Some p → 0 < at_front p old + at_front p new
some_next p [] [] h = absurd (cc h)
some_next p [] (f ∷ new) h = omega (arith, some_front p f new (cc h))
some_next p (e ∷ old) [] h = omega (arith, some_front p e old (cc h))
some_next p (e ∷ old) (f ∷ new) h =
    elim (nat_lt (row_number_of f.0) (row_number_of e.0)) as (λ b. Some (if b then row_number_of f.0 else row_number_of e.0) ≡ Some p → 0 < at_front p (e ∷ old) + at_front p (f ∷ new)) [
      | true ↦ λ h. omega (arith, some_front p f new (cc h))
      | false ↦ λ h. omega (arith, some_front p e old (cc h))
    ] h

fits_front : (p : ℕ) (es : Entries) → at_front p es ≤ length es
fits_front p [] = omega arith
fits_front p (e ∷ es) =
    elim (row_number_of e.0 == p) as (λ b. (if b then suc (at_front p es) else 0) ≤ suc (length es)) [ true ↦ omega (arith, fits_front p es) | false ↦ omega arith ]

-- behind it the lists are shorter
pub shorter_behind : (p : ℕ) (old new o n : Entries) → lower_row_number (row_number_at_front old) (row_number_at_front new) ≡ Some p
    → o ≡ drop (at_front p old) old → n ≡ drop (at_front p new) new → length o + length n < length old + length new
shorter_behind p old new o n h is_o is_n =
    omega (arith, some_next p old new h, fits_front p old, fits_front p new, ap length is_o, ap length is_n, length-drop (at_front p old) old, length-drop (at_front p new) new)

both_empty : (old new : Entries) → lower_row_number (row_number_at_front old) (row_number_at_front new) ≡ None → (old ≡ []) × (new ≡ [])
both_empty [] [] h = (refl, refl)
both_empty [] (f ∷ new) h = absurd (cc h)
both_empty (e ∷ old) [] h = absurd (cc h)
both_empty (e ∷ old) (f ∷ new) h = absurd (cc h)

pub unnoted : (p : ℕ) (a b : Entries) (x : Option (Option Row)) → a ≡ [] → b ≡ [] → IsNotedAt p a b x → x ≡ None
unnoted p a b None h k is = refl
unnoted p a b (Some row) h k is = absurd (is.1 h k)

pub first_of_one : (x : Option (Option Row)) → x ≡ or_first x None
first_of_one (Some row) = refl
first_of_one None = refl

module _ (p : ℕ) (old new : Entries) (fo : IsFront p old (at_front p old) (in_row p old)) (fn : IsFront p new (at_front p new) (in_row p new))
    (rest : List RowItems) (noted : AreNoted (drop (at_front p old) old) (drop (at_front p new) new) rest) where
  ends : row_told p rest ≡ None
  ends = unnoted p _ _ (row_told p rest) (none_from p (suc p) (drop (at_front p old) old) (omega arith) fo.above) (none_from p (suc p) (drop (at_front p new) new) (omega arith) fn.above) (noted p)

  elsewhere : (q : ℕ) → (q == p) ≡ false → IsNotedAt q (in_row q old) (in_row q new) (row_told q rest)
  elsewhere q is =
      subst (λ a. IsNotedAt q a (in_row q new) (row_told q rest)) (fo.same q is) (subst (λ b. IsNotedAt q (in_row q (drop (at_front p old) old)) b (row_told q rest)) (fn.same q is) (noted q))

  -- the row has the same
  stays : take (at_front p old) old ≡ take (at_front p new) new → AreNoted old new rest
  stays e q =
      elim (q == p) as (λ b. (q == p) ≡ b → IsNotedAt q (in_row q old) (in_row q new) (row_told q rest)) [
        | true ↦ λ is. subst (λ r. IsNotedAt r (in_row r old) (in_row r new) (row_told r rest)) (sym (eq_true q p is)) (subst (IsNotedAt p (in_row p old) (in_row p new)) (sym ends) (sym fo.taken ∙ e ∙ fn.taken))
        | false ↦ λ is. elsewhere q is
      ] refl

  -- it is noted
  changes : 0 < at_front p old + at_front p new → (group : Entries) → take (at_front p new) new ≡ group → AreNoted old new ((p, group) ∷ rest)
  changes lt group e q =
      elim (q == p) as (λ b. (q == p) ≡ b → IsNotedAt q (in_row q old) (in_row q new) (row_told q ((p, group) ∷ rest))) [
        | true ↦ λ is. subst (λ r. IsNotedAt r (in_row r old) (in_row r new) (row_told r ((p, group) ∷ rest))) (sym (eq_true q p is)) here
        | false ↦ λ is. subst (IsNotedAt q (in_row q old) (in_row q new))
            (first_of_one (row_told q rest) ∙ ap (λ b. or_first (row_told q rest) (if b then Some (row_of_items p group) else None)) (sym is)) (elsewhere q is)
      ] refl
    where
      here : IsNotedAt p (in_row p old) (in_row p new) (row_told p ((p, group) ∷ rest))
      here = subst (IsNotedAt p (in_row p old) (in_row p new)) (sym (λ i. or_first (ends i) (if eq_same p i then Some (row_of_items p group) else None)))
          (ap (row_of_items p) (sym e ∙ fn.taken), λ a b. (let x = no_front p old a in let y = no_front p new b in omega (arith, lt, x, y)))

-- what is noted of two lists, if that of the rests follows
pub record GoesOn (old new old_rest new_rest : Entries) (noted : List RowItems) : Type 0 where
  pub olds : AreRising row_number_of old_rest
  pub news : AreRising row_number_of new_rest
  pub follow : (rest : List RowItems) → AreNoted old_rest new_rest rest → AreNoted old new (noted ++ rest)

pub begins : (old new : Entries) (noted : List RowItems) → noted ≡ [] → AreRising row_number_of old → AreRising row_number_of new → GoesOn old new old new noted
begins old new noted e r s = record { olds = r; news = s; follow = λ rest is. subst (λ cs. AreNoted old new (cs ++ rest)) (sym e) is }

pub goes_on : (old new o n : Entries) (p : ℕ) (before after : List RowItems) → GoesOn old new o n before → lower_row_number (row_number_at_front o) (row_number_at_front n) ≡ Some p
    → IsNoteOf p (take (at_front p o) o) (take (at_front p n) n) before after → GoesOn old new (drop (at_front p o) o) (drop (at_front p n) n) after
goes_on old new o n p before after g h note =
    let is = next p o n h g.olds g.news in
    let fo = front p o is.olds g.olds in
    let fn = front p n is.news g.news in
    record {
      olds = fo.rises;
      news = fn.rises;
      follow = λ rest noted. by note rest (stays p o n fo fn rest noted) (changes p o n fo fn rest noted is.some);
    }
  where
    by : IsNoteOf p (take (at_front p o) o) (take (at_front p n) n) before after → (rest : List RowItems) → (take (at_front p o) o ≡ take (at_front p n) n → AreNoted o n rest)
        → ((group : Entries) → take (at_front p n) n ≡ group → AreNoted o n ((p, group) ∷ rest)) → AreNoted old new (after ++ rest)
    by (inl same) rest one more = subst (λ cs. AreNoted old new (cs ++ rest)) (sym same.0) (g.follow rest (one same.1))
    by (inr added) rest one more = subst (AreNoted old new)
        (sym (ap (λ cs. cs ++ rest) added ∙ append_assoc before ((p, take (at_front p n) n) ∷ []) rest)) (g.follow ((p, take (at_front p n) n) ∷ rest) (more (take (at_front p n) n) refl))

pub ended : (old new o n : Entries) (noted : List RowItems) → GoesOn old new o n noted → lower_row_number (row_number_at_front o) (row_number_at_front n) ≡ None → AreNoted old new noted
ended old new o n noted g h =
    let both = both_empty o n h in
    let nothing : AreNoted o n [] = subst (λ a. AreNoted a n []) (sym both.0) (subst (λ b. AreNoted [] b []) (sym both.1) (λ p. refl)) in
    subst (AreNoted old new) (append-nil noted) (g.follow [] nothing)

-- the same, of what equals these
pub goes_on_with : (old new o n : Entries) (p : ℕ) (before after : List RowItems) (a b o' n' : Entries) → GoesOn old new o n before → lower_row_number (row_number_at_front o) (row_number_at_front n) ≡ Some p
    → a ≡ take (at_front p o) o → b ≡ take (at_front p n) n → IsNoteOf p a b before after → o' ≡ drop (at_front p o) o → n' ≡ drop (at_front p n) n → GoesOn old new o' n' after
goes_on_with old new o n p before after a b o' n' g h is_a is_b note is_o is_n =
    subst (λ (x : Entries). GoesOn old new x n' after) (sym is_o)
    (subst (λ (x : Entries). GoesOn old new (drop (at_front p o) o) x after) (sym is_n)
    (goes_on old new o n p before after g h (subst (λ (x : Entries). IsNoteOf p x (take (at_front p n) n) before after) is_a (subst (λ (x : Entries). IsNoteOf p a x before after) is_b note))))
