-- What proxies wait for, as slots are set.
use Rattle.std.proofs.Common.{◌≡◌, ◌⊎◌, inl, inr, ⊎_elim, ℕ, zero, suc, ◌-◌, Bool, true, false, List, [], ◌∷◌, Option, Some, None, refl, sym, ap, ◌∙◌, subst, length, slice_get, slice_set}
use Rattle.std.specs.Prelude.{◌≢◌, ◌==◌, ◌&&◌, replicate, if◌then◌else◌}
use Rattle.std.proofs.lemmas.Bool.{eqb-true}
use Rattle.connections.proofs.SlotLemmas.{set_other, same_or_not}
use Rattle.service.specs.declared.assignment.Assignment.{Assignment}
use Rattle.service.specs.declared.assignment.Outstanding.{Outstanding}
use Rattle.service.specs.Service.{WaitsAt}
use Rattle.service.specs.Steps.{NoneWaits, KeepsWaits, AddsWait, EndsWait, is_request_of, assignment_of, owed_of, TakesOne, TakesWaitIn, TakesWaitAt, SetsWaitIn, SetsWaitAt}

-- so many that wait for nothing
pub none_of : (n : ℕ) → NoneWaits (replicate n None)
none_of zero a w = let e : ◌≡◌ {A = Option (Option Outstanding)} None (Some (Some w.1)) = w.2 in absurd (cc e)
none_of (suc n) a (zero, o, at, is) = let e : ◌≡◌ {A = Option (Option Outstanding)} (Some None) (Some (Some o)) = at in absurd (cc e)
none_of (suc n) a (suc i, o, at, is) = none_of n a (i, o, at, is)

pub set_length : (xs : List (Option Outstanding)) (i : ℕ) (p : Option Outstanding) → length (slice_set xs i p) ≡ length xs
set_length [] i p = refl
set_length (x ∷ xs) zero p = refl
set_length (x ∷ xs) (suc i) p = ap suc (set_length xs i p)

-- what is in a slot after it was set
set_there : (xs : List (Option Outstanding)) (i : ℕ) (p q : Option Outstanding) → slice_get (slice_set xs i p) i ≡ Some q → q ≡ p
set_there [] i p q e = let s : ◌≡◌ {A = Option (Option Outstanding)} None (Some q) = e in absurd (cc s)
set_there (x ∷ xs) zero p q e = let s : ◌≡◌ {A = Option (Option Outstanding)} (Some p) (Some q) = e in sym (cc s)
set_there (x ∷ xs) (suc i) p q e = set_there xs i p q e

some_is : (p : Option Outstanding) (o : Outstanding) (a : Assignment) → p ≡ Some o → o.assignment ≡ a → assignment_of p ≡ Some a
some_is p o a e is = ap assignment_of e ∙ ap (λ (x : Assignment). Some x) is

is_some_of : (p : Option Outstanding) (a : Assignment) → assignment_of p ≡ Some a → (o : Outstanding) × (p ≡ Some o) × (o.assignment ≡ a)
is_some_of None a e = let s : ◌≡◌ {A = Option Assignment} None (Some a) = e in absurd (cc s)
is_some_of (Some o) a e = (o, refl, let s : ◌≡◌ {A = Option Assignment} (Some o.assignment) (Some a) = e in cc s)

-- who waits in a slot after one was set waited there, or was set there
set_waits : (xs : List (Option Outstanding)) (i : ℕ) (p : Option Outstanding) (k : ℕ) (a : Assignment) → WaitsAt (slice_set xs i p) k a → WaitsAt xs k a ⊎ ((k ≡ i) × (assignment_of p ≡ Some a))
set_waits xs i p k a w = ⊎_elim
    (λ (same : k ≡ i). inr (same, some_is p w.0 a (sym (set_there xs i p (Some w.0) (subst (λ (n : ℕ). slice_get (slice_set xs i p) n ≡ Some (Some w.0)) same w.1))) w.2))
    (λ (differs : k ≢ i). inl (w.0, sym (set_other xs i p k differs) ∙ w.1, w.2))
    (same_or_not k i)

pub adds_set : (xs : List (Option Outstanding)) (i : ℕ) (o : Outstanding) → i ≡ o.assignment.proxy - 1 → AddsWait xs o.assignment (slice_set xs i (Some o))
adds_set xs i o slot k a w = ⊎_elim
    (λ (old : WaitsAt xs k a). inl old)
    (λ (new : (k ≡ i) × (assignment_of (Some o) ≡ Some a)). inr ((let s : ◌≡◌ {A = Option Assignment} (Some o.assignment) (Some a) = new.1 in sym (cc s)), new.0 ∙ slot))
    (set_waits xs i (Some o) k a w)

abbrev of_owed : Option (ℕ × Assignment) → Option Assignment
of_owed None = None
of_owed (Some z) = Some z.1

is_of_owed : (p : Option Outstanding) → assignment_of p ≡ of_owed (owed_of p)
is_of_owed None = refl
is_of_owed (Some o) = refl

same_assignment : (p q : Option Outstanding) → owed_of p ≡ owed_of q → assignment_of p ≡ assignment_of q
same_assignment p q same = is_of_owed p ∙ (ap of_owed same ∙ sym (is_of_owed q))

pub keeps_set : (xs ys : List (Option Outstanding)) (i : ℕ) → SetsWaitAt i xs ys → KeepsWaits xs ys
keeps_set xs ys i s = by (slice_get xs i) refl s
  where
    by : (o : Option (Option Outstanding)) → slice_get xs i ≡ o → SetsWaitIn i xs ys o → KeepsWaits xs ys
    by None e s k a w = subst (λ (zs : List (Option Outstanding)). WaitsAt zs k a) s w
    by (Some slot) e s k a w = ⊎_elim
        (λ (old : WaitsAt xs k a). old)
        (λ (new : (k ≡ i) × (assignment_of s.0 ≡ Some a)). let t = is_some_of slot a (same_assignment slot s.0 (sym s.1) ∙ new.1) in (t.0, ap (slice_get xs) new.0 ∙ (e ∙ ap (λ (p : Option Outstanding). Some p) t.1), t.2))
        (set_waits xs i s.0 k a (subst (λ (zs : List (Option Outstanding)). WaitsAt zs k a) s.2 w))

both_true : (a b : Bool) → (a && b) ≡ true → (a ≡ true) × (b ≡ true)
both_true true b e = (refl, e)
both_true false b e = absurd (cc e)

pub ends_take : (xs ys : List (Option Outstanding)) (i proxy number : ℕ) (result : Option Outstanding) → TakesWaitAt i proxy number xs ys result → EndsWait xs proxy number ys result
ends_take xs ys i proxy number result t = by (slice_get xs i) refl t
  where
    moved : (zs : List (Option Outstanding)) → zs ≡ xs → KeepsWaits xs zs
    moved zs e k a w = subst (λ (us : List (Option Outstanding)). WaitsAt us k a) e w

    nothing : (r : Option Outstanding) → ys ≡ xs → r ≡ None → EndsWait xs proxy number ys r
    nothing r e none = subst (EndsWait xs proxy number ys) (sym none) (moved ys e)

    cleared : ys ≡ slice_set xs i None → KeepsWaits xs ys
    cleared set k a w = ⊎_elim
        (λ (old : WaitsAt xs k a). old)
        (λ (new : (k ≡ i) × (assignment_of None ≡ Some a)). let s : ◌≡◌ {A = Option Assignment} None (Some a) = new.1 in absurd (cc s))
        (set_waits xs i None k a (subst (λ (zs : List (Option Outstanding)). WaitsAt zs k a) set w))

    unset : (p : Option Outstanding) → slice_get xs i ≡ Some p → ys ≡ slice_set xs i p → KeepsWaits xs ys
    unset p at set k a w = ⊎_elim
        (λ (old : WaitsAt xs k a). old)
        (λ (new : (k ≡ i) × (assignment_of p ≡ Some a)). let t = is_some_of p a new.1 in (t.0, ap (slice_get xs) new.0 ∙ (at ∙ ap (λ (q : Option Outstanding). Some q) t.1), t.2))
        (set_waits xs i p k a (subst (λ (zs : List (Option Outstanding)). WaitsAt zs k a) set w))

    by_some : (o : Outstanding) (b : Bool) (now : Option Outstanding) → is_request_of proxy number (Some o) ≡ b → slice_get xs i ≡ Some (Some o) → result ≡ (if b then Some o else None) → now ≡ (if b then None else Some o) → ys ≡ slice_set xs i now → EndsWait xs proxy number ys result
    by_some o true now is at r n set =
        let both = both_true (o.assignment.proxy == proxy) (o.assignment.number == number) is in
        subst (EndsWait xs proxy number ys) (sym r) (cleared (set ∙ ap (slice_set xs i) n), (i, o, at, refl), eqb-true o.assignment.proxy proxy both.0, eqb-true o.assignment.number number both.1)
    by_some o false now is at r n set = subst (EndsWait xs proxy number ys) (sym r) (unset (Some o) at (set ∙ ap (slice_set xs i) n))

    by_slot : (p now : Option Outstanding) → slice_get xs i ≡ Some p → TakesOne proxy number p now result → ys ≡ slice_set xs i now → EndsWait xs proxy number ys result
    by_slot None now at one set = subst (EndsWait xs proxy number ys) (sym one.0) (unset None at (set ∙ ap (slice_set xs i) one.1))
    by_slot (Some o) now at one set = by_some o (is_request_of proxy number (Some o)) now refl at one.0 one.1 set

    by : (o : Option (Option Outstanding)) → slice_get xs i ≡ o → TakesWaitIn i proxy number xs ys result o → EndsWait xs proxy number ys result
    by None e t = nothing result t.0 t.1
    by (Some p) e t = by_slot p t.0 e t.1 t.2
