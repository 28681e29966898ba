-- What members did one by one, in one order.
use Rattle.std.proofs.Common.{◌≡◌, ℕ, Bool, true, false, List, [], ◌∷◌, ◌++◌, refl, sym, subst, append_assoc}
use Rattle.std.specs.Prelude.{◌==◌}
use Rattle.std.proofs.lemmas.List.{append-nil}
use Rattle.std.proofs.lemmas.Bool.{eqb-true}
use Rattle.site_laws.specs.Orders.{deeds_of, AreAllowed, DoesAll, put_at}
use Rattle.site_laws.proofs.OrderLemmas.{put_same, put_other, own_first, other_first}

module _ {N D : Type 0} (Does : ℕ → N → D → N → Type 0) (Whole : (ℕ → N) → List (ℕ × D) → Type 0) (May : List (ℕ × D) → ℕ × D → Type 0) where
  -- a deed of one member leads the whole on
  abbrev pub Steps : Type 0
  Steps = (parts : ℕ → N) (done : List (ℕ × D)) (m : ℕ) (d : D) (next : N) → Whole parts done → May done (m, d) → Does m (parts m) d next → Whole (put_at parts m next) (done ++ (m, d) ∷ [])

  -- what is left for each member when one of them did its next deed
  rest_of : (parts now : ℕ → N) (m : ℕ) (d : D) (next : N) (order : List (ℕ × D)) → ((k : ℕ) → DoesAll Does k (parts k) (deeds_of k ((m, d) ∷ order)) (now k)) → DoesAll Does m next (deeds_of m order) (now m)
      → (k : ℕ) → DoesAll Does k (put_at parts m next k) (deeds_of k order) (now k)
  rest_of parts now m d next order all own_rest k = by (m == k) refl
    where
      by : (here : Bool) → (m == k) ≡ here → DoesAll Does k (put_at parts m next k) (deeds_of k order) (now k)
      by true e =
          subst (λ (n : N). DoesAll Does k n (deeds_of k order) (now k)) (sym (put_same parts m next k e))
          (subst (λ (j : ℕ). DoesAll Does j next (deeds_of j order) (now j)) (eqb-true m k e) own_rest)
      by false e =
          subst (λ (n : N). DoesAll Does k n (deeds_of k order) (now k)) (sym (put_other parts m next k e))
          (subst (λ (ds : List D). DoesAll Does k (parts k) ds (now k)) (other_first m d order k e) (all k))

  pub merged : Steps → (parts now : ℕ → N) (done order : List (ℕ × D)) → Whole parts done → ((k : ℕ) → DoesAll Does k (parts k) (deeds_of k order) (now k)) → AreAllowed May done order → Whole now (done ++ order)
  merged steps parts now done [] whole all allowed =
      let same : parts ≡ now = λ i. λ k. sym (all k) i in
      subst (λ (p : (ℕ → N) × List (ℕ × D)). Whole p.0 p.1) (λ i. (same i, sym (append-nil done) i)) whole
  merged steps parts now done (x ∷ order) whole all allowed =
      let m = x.0 in
      let d = x.1 in
      let first : DoesAll Does m (parts m) (d ∷ deeds_of m order) (now m) = subst (λ (ds : List D). DoesAll Does m (parts m) ds (now m)) (own_first m d order) (all m) in
      let next = steps parts done m d first.0 whole allowed.0 first.1 in
      subst (λ (ds : List (ℕ × D)). Whole now ds) (append_assoc done (x ∷ []) order)
      (merged steps (put_at parts m first.0) now (done ++ x ∷ []) order next (rest_of parts now m d first.0 order all first.2) allowed.1)

module _ {N D : Type 0} (Does : ℕ → N → D → N → Type 0) where
  -- one life after another
  pub one_after : (m : ℕ) (n mid now : N) (ds es : List D) → DoesAll Does m n ds mid → DoesAll Does m mid es now → DoesAll Does m n (ds ++ es) now
  one_after m n mid now [] es first later = subst (λ (x : N). DoesAll Does m x es now) first later
  one_after m n mid now (d ∷ ds) es first later = (first.0, first.1, one_after m first.0 mid now ds es first.2 later)

  -- one more deed
  pub one_more : (m : ℕ) (n mid now : N) (ds : List D) (d : D) → DoesAll Does m n ds mid → Does m mid d now → DoesAll Does m n (ds ++ d ∷ []) now
  one_more m n mid now ds d all did = one_after m n mid now ds (d ∷ []) all (now, did, refl)
