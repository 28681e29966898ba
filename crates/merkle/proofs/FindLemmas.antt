-- Where a key is found among the entries of a fork.
use Rattle.std.proofs.Common.{◌≡◌, Bool, true, false, cond, not, List, [], ◌∷◌, ◌++◌, Some, None, refl, sym, ap, ◌∙◌}
use Rattle.std.specs.declared.cmp.Ordering.{Ordering}
use Rattle.std.specs.declared.cmp.Ordering.TheVariants.{Less, Equal, Greater}
use Rattle.std.specs.Ordering.{eq_by_cmp, is_eq}
use Rattle.std.specs.FinMap.{find, IsAntisymmetric}
use Rattle.merkle.specs.Shape.{AllOn}

pub equal_of : (r : Ordering) → is_eq r ≡ true → r ≡ Equal
equal_of Less h = cc
equal_of Equal h = refl
equal_of Greater h = cc

module _ {K V : Type 0} {R : K → K → Ordering} (same : IsAntisymmetric R) where
  -- a key of the other side is not found
  pub not_found : (test : K → Bool) (side : Bool) (q : K) (es : List (K × V)) → AllOn test side es → test q ≡ not side → find R q es ≡ None
  not_found test side q [] all other = refl
  not_found test side q (e ∷ es) all other =
      elim (eq_by_cmp R q e.0) as (λ b. eq_by_cmp R q e.0 ≡ b → cond b (Some e.1) (find R q es) ≡ None) [
        | true ↦ λ is. absurd (apart side (sym all.0 ∙ (sym (ap test (same q e.0 (equal_of _ is))) ∙ other)))
        | false ↦ λ is. not_found test side q es all.1 other
      ] refl
    where
      apart : (b : Bool) → b ≡ not b → ⊥
      apart true e = cc
      apart false e = cc

  pub find_past : (q : K) (xs ys : List (K × V)) → find R q xs ≡ None → find R q (xs ++ ys) ≡ find R q ys
  find_past q [] ys h = refl
  find_past q (x ∷ xs) ys h =
      elim (eq_by_cmp R q x.0) as (λ b. cond b (Some x.1) (find R q xs) ≡ None → cond b (Some x.1) (find R q (xs ++ ys)) ≡ find R q ys) [
        | true ↦ λ e. cc
        | false ↦ λ e. find_past q xs ys e
      ] h

  pub find_before : (q : K) (xs ys : List (K × V)) → find R q ys ≡ None → find R q (xs ++ ys) ≡ find R q xs
  find_before q [] ys h = h
  find_before q (x ∷ xs) ys h = ap (cond (eq_by_cmp R q x.0) (Some x.1)) (find_before q xs ys h)

  pub find_right : (test : K → Bool) (q : K) (xs ys : List (K × V)) → AllOn test false xs → test q ≡ true → find R q (xs ++ ys) ≡ find R q ys
  find_right test q xs ys all on = find_past q xs ys (not_found test false q xs all on)

  pub find_left : (test : K → Bool) (q : K) (xs ys : List (K × V)) → AllOn test true ys → test q ≡ false → find R q (xs ++ ys) ≡ find R q xs
  find_left test q xs ys all on = find_before q xs ys (not_found test true q ys all on)
