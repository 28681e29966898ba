-- Marks, one for each letter.
use Rattle.std.proofs.Common.{◌≡◌, ℕ, zero, suc, ◌<◌, ◌≤◌, ◌+◌, ◌-◌, ◌⊎◌, Bool, true, false, List, [], ◌∷◌, ◌++◌, length, Some, None, get_or, refl, sym, ap, ◌∙◌, subst, inl, inr, ⊎_elim, arith, slice_get, slice_set}
use Rattle.std.proofs.Math.Numerals.{add-one}
use Rattle.std.proofs.lemmas.Option.{slice_get_read}
use Rattle.app.specs.Past.{AllMarkedBelow, marked_at, IsNextLetter}

-- a mark more leaves the others as they are
set_keeps : (marks : List Bool) (at i : ℕ) → slice_get marks i ≡ Some true → slice_get (slice_set marks at true) i ≡ Some true
set_keeps [] at i e = e
set_keeps (m ∷ marks) zero zero e = refl
set_keeps (m ∷ marks) zero (suc i) e = e
set_keeps (m ∷ marks) (suc at) zero e = e
set_keeps (m ∷ marks) (suc at) (suc i) e = set_keeps marks at i e

pub set_all : (n : ℕ) (marks : List Bool) (at : ℕ) → AllMarkedBelow n marks → AllMarkedBelow n (slice_set marks at true)
set_all n marks at all i l = set_keeps marks at i (all i l)

set_past : (marks : List Bool) (at : ℕ) → length marks ≤ at → slice_set marks at true ≡ marks
set_past [] at l = refl
set_past (m ∷ marks) zero l = absurd (omega (arith, l))
set_past (m ∷ marks) (suc at) l = ap (λ ms. m ∷ ms) (set_past marks at (omega (arith, l)))

pub marked_there : (marks : List Bool) (letter : ℕ) → 1 ≤ letter → slice_set marks (letter - 1) true ≡ marked_at marks letter
marked_there marks zero l = absurd (omega (arith, l))
marked_there marks (suc i) l = let e : suc i - 1 ≡ i = omega arith in ap (λ n. slice_set marks n true) e

pub marked_not : (marks : List Bool) (letter : ℕ) → (letter < 1) ⊎ (length marks < letter) → marked_at marks letter ≡ marks
marked_not marks zero l = refl
marked_not marks (suc i) l = set_past marks i (⊎_elim (λ h. absurd (omega (arith, h))) (λ h. omega (arith, h)) l)

append_keeps : (marks more : List Bool) (i : ℕ) → slice_get marks i ≡ Some true → slice_get (marks ++ more) i ≡ Some true
append_keeps [] more i e = absurd (cc)
append_keeps (m ∷ marks) more zero e = e
append_keeps (m ∷ marks) more (suc i) e = append_keeps marks more i e

pub append_all : (n : ℕ) (marks more : List Bool) → AllMarkedBelow n marks → AllMarkedBelow n (marks ++ more)
append_all n marks more all i l = append_keeps marks more i (all i l)

-- the letter after this place is the next one
pub next_is : (marks : List Bool) (at : ℕ) → at < length marks → false ≡ get_or marks at false → AllMarkedBelow at marks → IsNextLetter marks (Some (at + 1))
next_is marks at l e all = subst (λ n. IsNextLetter marks (Some n)) (sym (add-one at)) (slice_get_read marks (length marks) at false refl l e, all)

-- all letters were delivered
pub none_is : (marks : List Bool) (at : ℕ) → length marks ≤ at → AllMarkedBelow at marks → IsNextLetter marks None
none_is marks at l all i h = all i (omega (arith, l, h))

-- below it or not
split_at : (i at : ℕ) → (i < at) ⊎ (at ≤ i)
split_at i zero = inr (omega arith)
split_at zero (suc at) = inl (omega arith)
split_at (suc i) (suc at) = ⊎_elim (λ l. inl (omega (arith, l))) (λ l. inr (omega (arith, l))) (split_at i at)

-- one mark more
pub one_more : (marks : List Bool) (at : ℕ) → at < length marks → true ≡ get_or marks at true → AllMarkedBelow at marks → AllMarkedBelow (at + 1) marks
one_more marks at l e all i h =
    ⊎_elim (λ lt. all i lt) (λ ge. let eq : i ≡ at = omega (arith, h, ge) in ap (slice_get marks) eq ∙ slice_get_read marks (length marks) at true refl l e) (split_at i at)
