-- What was asked later comes later.
use Rattle.std.proofs.Common.{◌≡◌, ℕ, zero, suc, ◌≤◌, ◌⊎◌, inl, inr, ⊎_elim, List, [], ◌∷◌, ◌++◌, length, Some, sym, ap, ◌∙◌, subst, arith}
use Rattle.std.specs.Prelude.{Contains, slice_get}
use Rattle.run_laws.specs.Run.{Executed}
use Rattle.run_laws.proofs.Elements.{in_head, in_tail}
use Rattle.linear_laws.specs.Laws.{AskedLaterIsLater}

-- an element of a list with others behind it is one of the list, or is behind it
in_first : {X : Type 0} (xs ys : List X) (k : ℕ) (x : X) → slice_get (xs ++ ys) k ≡ Some x → Contains xs x ⊎ (length xs ≤ k)
in_first [] ys k x e = inr (omega arith)
in_first {X} (y ∷ xs) ys zero x e = inl (let same : y ≡ x = cc e in subst (λ (z : X). Contains (y ∷ xs) z) same (in_head y xs))
in_first (y ∷ xs) ys (suc k) x e = elim (in_first xs ys k x e) [
  | inl c ↦ inl (in_tail y x xs c)
  | inr le ↦ inr (omega (arith, le))
]

pub asked_later_is_later : AskedLaterIsLater
asked_later_is_later worlds events w run later place e q is_run extends there has not_asked =
    ⊎_elim
    (λ c. absurd (not_asked (is_run.asked e q c has)))
    (λ le. le)
    (in_first run extends.0 place e (sym (ap (λ (l : List Executed). slice_get l place) extends.1) ∙ there))
