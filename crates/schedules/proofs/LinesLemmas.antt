-- The first line of bytes.
use Rattle.std.proofs.Common.{◌≡◌, ℕ, ◌<◌, eqb, List, [], ◌∷◌, ◌++◌, length, Some, None, inl, inr, refl, ap, subst, arith}
use Rattle.std.proofs.lemmas.Bool.{cases_Bool, eqb-true}
use Rattle.schedules.specs.Parts.{parted}
use Rattle.schedules.specs.Schedule.{lines_of}
use Rattle.schedules.proofs.OptionLemmas.{option_map_some, option_map_none, at_some}

-- the parts and the separator are the text
pub parted_text : (s : ℕ) (text : List ℕ) (p : List ℕ × List ℕ) → parted s text ≡ Some p → text ≡ p.0 ++ s ∷ p.1
parted_text s [] p e = absurd (cc)
parted_text s (b ∷ bs) p e =
    elim (cases_Bool (eqb b s)) [
      | inl same ↦ subst (λ (q : List ℕ × List ℕ). b ∷ bs ≡ q.0 ++ s ∷ q.1) (at_some ([], bs) p (rw same at e)) (ap (λ (x : ℕ). x ∷ bs) (eqb-true b s same))
      | inr other ↦
          let q = option_map_some (λ (q : List ℕ × List ℕ). (b ∷ q.0, q.1)) (parted s bs) p (rw other at e) in
          subst (λ (q : List ℕ × List ℕ). b ∷ bs ≡ q.0 ++ s ∷ q.1) q.2 (ap (λ (xs : List ℕ). b ∷ xs) (parted_text s bs q.0 q.1))
    ]

-- the first line, and those of what stands after it
pub first_of_lines : (bytes : List ℕ) (p : List ℕ × List ℕ) → parted 10 bytes ≡ Some p → (lines_of bytes ≡ p.0 ∷ lines_of p.1) × (length p.1 < length bytes)
first_of_lines [] p e = absurd (cc)
first_of_lines (b ∷ bs) p e =
    elim (cases_Bool (eqb b 10)) [
      | inl same ↦ subst (λ (q : List ℕ × List ℕ). (lines_of (b ∷ bs) ≡ q.0 ∷ lines_of q.1) × (length q.1 < length (b ∷ bs))) (at_some ([], bs) p (rw same at e)) (rw same refl, omega arith)
      | inr other ↦
          let q = option_map_some (λ (q : List ℕ × List ℕ). (b ∷ q.0, q.1)) (parted 10 bs) p (rw other at e) in
          let others = first_of_lines bs q.0 q.1 in
          subst (λ (q : List ℕ × List ℕ). (lines_of (b ∷ bs) ≡ q.0 ∷ lines_of q.1) × (length q.1 < length (b ∷ bs))) q.2 (rw (other, others.0) refl, omega (arith, others.1))
    ]

-- a line that nothing ends is the only one
pub only_line : (bytes : List ℕ) → parted 10 bytes ≡ None → 0 < length bytes → lines_of bytes ≡ bytes ∷ []
only_line [] e l = absurd (omega arith)
only_line (b ∷ []) e l =
    elim (cases_Bool (eqb b 10)) [
      | inl same ↦ absurd (let h = rw same at e in cc)
      | inr other ↦ rw other refl
    ]
only_line (b ∷ c ∷ cs) e l =
    elim (cases_Bool (eqb b 10)) [
      | inl same ↦ absurd (let h = rw same at e in cc)
      | inr other ↦
          let rest : parted 10 (c ∷ cs) ≡ None = option_map_none (λ (q : List ℕ × List ℕ). (b ∷ q.0, q.1)) (parted 10 (c ∷ cs)) (rw other at e) in
          rw (other, only_line (c ∷ cs) rest (omega arith)) refl
    ]
