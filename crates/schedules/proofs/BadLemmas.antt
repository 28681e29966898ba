-- The first line that is not allowed at its place.
use Rattle.std.proofs.Common.{◌≡◌, ℕ, suc, ◌+◌, ◌<◌, true, false, List, [], ◌∷◌, length, take, Option, Some, None, Result, Ok, Err, inl, inr, ◌⊎◌, ⊎_elim, refl, sym, ap, subst, arith}
use Rattle.std.proofs.lemmas.Bool.{cases_Bool}
use Rattle.events.specs.Config.{ConfigView}
use Rattle.schedules.specs.Schedule.{is_skipped, told_lines, FitsPlace, AllFit, IsFirstBad}
use Rattle.schedules.specs.Reading.{LineView, line_said, size_said, clients_said, or_bad, head_said, with_lines, lines_said}
use Rattle.schedules.proofs.LineLemmas.{says_something, says_nothing}
use Rattle.schedules.proofs.HeadLemmas.{size_read, size_text, clients_read, clients_text, or_bad_ok, read_whole, at_ok}

-- as `IsFirstBad`, of lines after so many, of which so many say something
pub record BadFrom (place before : ℕ) (lines : List (List ℕ)) (number : ℕ) : Type 0 where
  pub count : ℕ
  pub numbered : number ≡ before + suc count
  pub all_fit : AllFit place (told_lines (take count lines))
  pub bad : ((count < length lines) × (AllFit place (told_lines (take (suc count) lines)) → ⊥)) ⊎ ((count ≡ length lines) × (place + length (told_lines lines) < 2))

bad_skip : (p b : ℕ) (line : List ℕ) (lines : List (List ℕ)) (n : ℕ) → is_skipped line ≡ true → BadFrom p (b + 1) lines n → BadFrom p b (line ∷ lines) n
bad_skip p b line lines n skipped h = record {
  count = suc h.count;
  numbered = omega (arith, h.numbered);
  all_fit = rw skipped h.all_fit;
  bad = ⊎_elim (λ x. inl (omega (arith, x.0), λ f. x.1 (rw skipped at f))) (λ x. inr (ap suc x.0, rw skipped x.1)) h.bad;
}

bad_fit : (p b : ℕ) (line : List ℕ) (lines : List (List ℕ)) (n : ℕ) → is_skipped line ≡ false → FitsPlace p line → BadFrom (suc p) (b + 1) lines n → BadFrom p b (line ∷ lines) n
bad_fit p b line lines n says fits h = record {
  count = suc h.count;
  numbered = omega (arith, h.numbered);
  all_fit = rw says (fits, h.all_fit);
  bad = ⊎_elim (λ x. inl (omega (arith, x.0), λ f. x.1 (rw says at f).1)) (λ x. inr (ap suc x.0, rw says (omega (arith, x.1)))) h.bad;
}

bad_here : (p b : ℕ) (line : List ℕ) (lines : List (List ℕ)) → is_skipped line ≡ false → (FitsPlace p line → ⊥) → BadFrom p b (line ∷ lines) (b + 1)
bad_here p b line lines says never = record {
  count = 0;
  numbered = omega arith;
  all_fit = tt;
  bad = inl (omega arith, λ f. never (rw says at f).0);
}

bad_end : (p b : ℕ) → p < 2 → BadFrom p b [] (b + 1)
bad_end p b l = record { count = 0; numbered = omega arith; all_fit = tt; bad = inr (refl, omega (arith, l)) }

or_bad_err : {A B : Type 0} (o : Option A) (k : ℕ) (f : A → Result B ℕ) (n : ℕ) → or_bad o k f ≡ Err n → ((o ≡ None) × (k ≡ n)) ⊎ ((x : A) × (o ≡ Some x) × (f x ≡ Err n))
or_bad_err None k f n e = inl (refl, cc)
or_bad_err (Some x) k f n e = inr (x, refl, e)

abbrev read_bad : {A : Type 0} → ℕ → Result A ℕ
read_bad n = Err n

at_err : {A : Type 0} (k n : ℕ) → read_bad {A = A} k ≡ read_bad n → k ≡ n
at_err k n e = cc

with_err : (front : List LineView) (r : Result (List LineView) ℕ) (n : ℕ) → with_lines front r ≡ Err n → r ≡ Err n
with_err front (Ok ws) n e = absurd (cc)
with_err front (Err m) n e = e

abbrev Head : Type 0
Head = ConfigView × ℕ × List (List ℕ)

abbrev place_of : Option ℕ → ℕ
place_of None = 0
place_of (Some u) = 1

no_size : (line : List ℕ) → size_said line ≡ None → FitsPlace 0 line → ⊥
no_size line none fits = absurd (let e = size_read fits.0 line fits.1 in cc)

no_clients : (line : List ℕ) → clients_said line ≡ None → FitsPlace 1 line → ⊥
no_clients line none fits = absurd (let e = clients_read fits.0 line fits.1 in cc)

pub head_bad : (size : Option ℕ) (before : ℕ) (lines : List (List ℕ)) (n : ℕ) → head_said size before lines ≡ Err n → BadFrom (place_of size) before lines n
head_bad None before [] n e = subst (BadFrom 0 before []) (at_err {A = Head} (before + 1) n e) (bad_end 0 before (omega arith))
head_bad (Some u) before [] n e = subst (BadFrom 1 before []) (at_err {A = Head} (before + 1) n e) (bad_end 1 before (omega arith))
head_bad None before (line ∷ lines) n e =
    elim (cases_Bool (is_skipped line)) [
      | inl skipped ↦ bad_skip 0 before line lines n skipped (head_bad None (before + 1) lines n (rw skipped at e))
      | inr says ↦ ⊎_elim
          (λ x. subst (BadFrom 0 before (line ∷ lines)) x.1 (bad_here 0 before line lines says (no_size line x.0)))
          (λ x. bad_fit 0 before line lines n says (x.0, size_text line x.0 x.1) (head_bad (Some x.0) (before + 1) lines n x.2))
          (or_bad_err (size_said line) (before + 1) (λ (u : ℕ). head_said (Some u) (before + 1) lines) n (rw says at e))
    ]
head_bad (Some u) before (line ∷ lines) n e =
    elim (cases_Bool (is_skipped line)) [
      | inl skipped ↦ bad_skip 1 before line lines n skipped (head_bad (Some u) (before + 1) lines n (rw skipped at e))
      | inr says ↦ ⊎_elim
          (λ x. subst (BadFrom 1 before (line ∷ lines)) x.1 (bad_here 1 before line lines says (no_clients line x.0)))
          (λ x. absurd (let never = x.2 in cc))
          (or_bad_err (clients_said line) (before + 1) (λ (c : ℕ). read_whole {A = Head} (record { u = u; clients = c }, before + 1, lines)) n (rw says at e))
    ]

-- a bad line after the head
pub head_then_bad : (size : Option ℕ) (before : ℕ) (lines : List (List ℕ)) (h : Head) (n : ℕ) → head_said size before lines ≡ Ok h → BadFrom 2 h.1 h.2 n → BadFrom (place_of size) before lines n
head_then_bad None before [] h n e b = absurd (cc)
head_then_bad (Some u) before [] h n e b = absurd (cc)
head_then_bad None before (line ∷ lines) h n e b =
    elim (cases_Bool (is_skipped line)) [
      | inl skipped ↦ bad_skip 0 before line lines n skipped (head_then_bad None (before + 1) lines h n (rw skipped at e) b)
      | inr says ↦
          let u = or_bad_ok (size_said line) (before + 1) (λ (u : ℕ). head_said (Some u) (before + 1) lines) h (rw says at e) in
          bad_fit 0 before line lines n says (u.0, size_text line u.0 u.1) (head_then_bad (Some u.0) (before + 1) lines h n u.2 b)
    ]
head_then_bad (Some u) before (line ∷ lines) h n e b =
    elim (cases_Bool (is_skipped line)) [
      | inl skipped ↦ bad_skip 1 before line lines n skipped (head_then_bad (Some u) (before + 1) lines h n (rw skipped at e) b)
      | inr says ↦
          let c = or_bad_ok (clients_said line) (before + 1) (λ (c : ℕ). Ok (record { u = u; clients = c }, before + 1, lines)) h (rw says at e) in
          let made : Head = (record { u = u; clients = c.0 }, before + 1, lines) in
          bad_fit 1 before line lines n says (c.0, clients_text line c.0 c.1) (subst (λ (g : Head). BadFrom 2 g.1 g.2 n) (sym (at_ok made h c.2)) b)
    ]

pub lines_bad : (p before : ℕ) (lines : List (List ℕ)) (n : ℕ) → lines_said before lines ≡ Err n → BadFrom (suc (suc p)) before lines n
lines_bad p before [] n e = absurd (cc)
lines_bad p before (line ∷ lines) n e =
    elim (cases_Bool (is_skipped line)) [
      | inl skipped ↦ bad_skip (suc (suc p)) before line lines n skipped (lines_bad p (before + 1) lines n (rw skipped at e))
      | inr says ↦ ⊎_elim
          (λ x. subst (BadFrom (suc (suc p)) before (line ∷ lines)) x.1 (bad_here (suc (suc p)) before line lines says (says_nothing line x.0)))
          (λ x. bad_fit (suc (suc p)) before line lines n says (says_something line x.0 x.1) (lines_bad (suc p) (before + 1) lines n (with_err (x.0 ∷ []) (lines_said (before + 1) lines) n x.2)))
          (or_bad_err (line_said line) (before + 1) (λ (said : LineView). with_lines (said ∷ []) (lines_said (before + 1) lines)) n (rw says at e))
    ]

pub first_bad : (lines : List (List ℕ)) (n : ℕ) → BadFrom 0 0 lines n → IsFirstBad lines n
first_bad lines n h = record {
  before = h.count;
  numbered = omega (arith, h.numbered);
  all_fit = h.all_fit;
  bad = ⊎_elim (λ x. inl x) (λ x. inr (x.0, omega (arith, x.1))) h.bad;
}
