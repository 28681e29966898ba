-- What is written is a beginning of what was said, and what waits is the rest.
use Rattle.std.proofs.Common.{◌≡◌, ℕ, ◌-◌, List, ◌++◌, ap, sym, ◌∙◌, subst, length, arith, append_assoc}
use Rattle.std.specs.Prelude.{take, drop, Result, Ok, Err, IfOk, OnErr}
use Rattle.std.proofs.lemmas.List.{length-append, take-append-drop}
use Rattle.std.proofs.Math.Seq.{take-append_seam}

module _ (s a b : List ℕ) (e : s ≡ a ++ b) where
  pub beginning : take (length s - length b) s ≡ a
  beginning =
      let lengths : length (a ++ b) - length b ≡ length a = omega (arith, length-append a b) in
      subst (λ (x : List ℕ). take (length x - length b) x ≡ a) (sym e) (ap (λ n. take n (a ++ b)) lengths ∙ take-append_seam a b)

  pub parted : s ≡ take (length s - length b) s ++ b
  parted = e ∙ ap (λ (x : List ℕ). x ++ b) (sym beginning)

module _ (s w waits : List ℕ) (e : s ≡ w ++ waits) (n : ℕ) where
  pub fewer : s ≡ (w ++ take n waits) ++ drop n waits
  fewer = e ∙ ap (λ (x : List ℕ). w ++ x) (sym (take-append-drop n waits)) ∙ sym (append_assoc w (take n waits) (drop n waits))

-- a write that took n bytes, or failed, leaves the rest waiting
pub still_parted : {E : Type 0} (r : Result ℕ E) (s old new : List ℕ) → IfOk r (λ n. new ≡ drop n old) → OnErr r (new ≡ old) → s ≡ take (length s - length old) s ++ old → s ≡ take (length s - length new) s ++ new
still_parted (Ok n) s old new ok err e =
    subst (λ (x : List ℕ). s ≡ take (length s - length x) s ++ x) (sym ok)
    (parted s (take (length s - length old) s ++ take n old) (drop n old) (fewer s (take (length s - length old) s) old e n))
still_parted (Err fault) s old new ok err e = subst (λ (x : List ℕ). s ≡ take (length s - length x) s ++ x) (sym err) e
