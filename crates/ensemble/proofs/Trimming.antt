-- Which verifiers were told to forget old decrees.
use Rattle.std.proofs.Common.{◌≡◌, ◌≢◌, ⊎_elim, ℕ, ◌+◌, ◌<◌, List, Option, None, Some, slice_get, refl, sym, ap, ◌∙◌, subst, arith}
use Rattle.verifier.specs.Verifier.{VerifierView}
use Rattle.slots.specs.Slot.{Slot}
use Rattle.ensemble.specs.Nodes.{NodesView, AtVerifierIn, VerifierMoves}
use Rattle.ensemble.specs.Trimming.{VerifierTrimsDue, AreTrimmedBelow}
use Rattle.ensemble.proofs.Lists.{set_get, get_other}
use Rattle.ensemble.proofs.Sending.{below_or_last}

pub trimmed_more : (id : ℕ) (n mid now : NodesView) → AreTrimmedBelow id n mid → VerifierMoves VerifierTrimsDue id mid now → AreTrimmedBelow (id + 1) n now
trimmed_more id n mid now t m = by (slice_get mid.verifiers id) refl m.3
  where
    is : now.verifiers ≡ m.0
    is = ap (λ (x : NodesView). x.verifiers) m.5

    get_is : (i : ℕ) → slice_get now.verifiers i ≡ slice_get m.0 i
    get_is i = ap (λ (vs : List (Slot VerifierView)). slice_get vs i) is

    by : (o : Option (Slot VerifierView)) → slice_get mid.verifiers id ≡ o → AtVerifierIn VerifierTrimsDue id mid.verifiers m.0 m.1 o → AreTrimmedBelow (id + 1) n now
    by None at did =
        let same : (i : ℕ) → slice_get now.verifiers i ≡ slice_get mid.verifiers i = λ i. get_is i ∙ ap (λ (vs : List (Slot VerifierView)). slice_get vs i) did.0 in
        record {
          below = λ i v lt there. ⊎_elim
              (λ (less : i < id). let old = t.below i v less there in (old.0, old.1, same i ∙ old.2, old.3))
              (λ (last : i ≡ id). absurd (let both : None ≡ Some v = sym at ∙ (t.above id (omega arith) ∙ subst (λ (k : ℕ). slice_get n.verifiers k ≡ Some v) last there) in cc both))
              (below_or_last i id (omega (arith, lt)));
          above = λ i le. same i ∙ t.above i (omega (arith, le));
        }
    by (Some w) at did =
        let other : (i : ℕ) → i ≢ id → slice_get now.verifiers i ≡ slice_get mid.verifiers i = λ i no. get_is i ∙ (ap (λ (vs : List (Slot VerifierView)). slice_get vs i) did.2 ∙ get_other mid.verifiers id i did.0 no) in
        let set : slice_get now.verifiers id ≡ Some did.0 = get_is id ∙ (ap (λ (vs : List (Slot VerifierView)). slice_get vs id) did.2 ∙ set_get mid.verifiers id w did.0 at) in
        record {
          below = λ i v lt there. ⊎_elim
              (λ (less : i < id). let old = t.below i v less there in (old.0, old.1, other i (λ e. omega (arith, e, less)) ∙ old.2, old.3))
              (λ (last : i ≡ id).
              let both : Some w ≡ Some v = sym at ∙ (t.above id (omega arith) ∙ subst (λ (k : ℕ). slice_get n.verifiers k ≡ Some v) last there) in
              let same : w ≡ v = cc both in
              (did.0, m.1, subst (λ (k : ℕ). slice_get now.verifiers k ≡ Some did.0) (sym last) set, subst (λ (x : Slot VerifierView). VerifierTrimsDue x did.0 m.1) same did.1))
              (below_or_last i id (omega (arith, lt)));
          above = λ i le. other i (λ e. omega (arith, e, le)) ∙ t.above i (omega (arith, le));
        }
