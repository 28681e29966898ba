-- Paths that begin alike.
use Rattle.std.proofs.Common.{◌≡◌, ℕ, ◌+◌, ◌<◌, Bool, true, false, List, [], ◌∷◌, sym, ap, ◌∙◌, subst, arith, below_more}
use Rattle.std.specs.declared.cmp.Ordering.{Ordering}
use Rattle.std.specs.Ordering.{eq_by_cmp, is_eq}
use Rattle.std.specs.Cmp.{IsTotalOrder, tied_itself}
use Rattle.merkle.specs.Shape.{Shape, fork, pairs, AllOn}
use Rattle.merkle.specs.Put.{IsPrefixed}
use Rattle.merkle.proofs.PutLemmas.{all_left, all_right}

module _ {K V : Type 0} (bit : K → ℕ → Bool) where
  pub no_prefix : (k : K) (es : List (K × V)) → IsPrefixed bit k 0 es
  no_prefix k es = record { each = λ i h. absurd (omega arith) }

  pub prefix_left : (k : K) (depth : ℕ) (l r : Shape K V) → IsPrefixed bit k depth (pairs (fork l r)) → AllOn (λ x. bit x depth) false (pairs l) → bit k depth ≡ false → IsPrefixed bit k (depth + 1) (pairs l)
  prefix_left k depth l r is all on =
      record { each = below_more (λ i. AllOn (λ x. bit x i) (bit k i) (pairs l)) depth (λ i h. all_left (λ x. bit x i) (bit k i) (pairs l) (pairs r) (is.each i h)) (subst (λ b. AllOn (λ x. bit x depth) b (pairs l)) (sym on) all) }

  pub prefix_right : (k : K) (depth : ℕ) (l r : Shape K V) → IsPrefixed bit k depth (pairs (fork l r)) → AllOn (λ x. bit x depth) true (pairs r) → bit k depth ≡ true → IsPrefixed bit k (depth + 1) (pairs r)
  prefix_right k depth l r is all on =
      record { each = below_more (λ i. AllOn (λ x. bit x i) (bit k i) (pairs r)) depth (λ i h. all_right (λ x. bit x i) (bit k i) (pairs l) (pairs r) (is.each i h)) (subst (λ b. AllOn (λ x. bit x depth) b (pairs r)) (sym on) all) }

  pub prefix_alike : (k : K) (depth : ℕ) (e : K × V) → IsPrefixed bit k depth (e ∷ []) → (i : ℕ) → i < depth → bit e.0 i ≡ bit k i
  prefix_alike k depth e is i h = (is.each i h).0

-- a key ties with itself
pub tied_alike : {K : Type 0} {R : K → K → Ordering} → IsTotalOrder R → (a b : K) → a ≡ b → eq_by_cmp R b a ≡ false → ⊥
tied_alike {R = R} o a b e h = let one : true ≡ false = sym (ap is_eq (tied_itself o b)) ∙ (ap (λ k. eq_by_cmp R b k) (sym e) ∙ h) in cc
