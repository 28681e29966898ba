-- What grows twice grows.
use Rattle.std.proofs.Common.{◌≡◌, ℕ, List, [], ◌++◌, length, take, Result, Ok, Err, refl, sym, ap, ◌∙◌, is_ok, if◌then◌else◌}
use Rattle.std.proofs.lemmas.List.{append_assoc, append-nil, take_at}
use Rattle.proto.specs.Growth.{Grows}

pub grows_same : (xs : List ℕ) → Grows xs xs
grows_same xs = record { more = []; is = sym (append-nil xs) }

pub grows_by : (xs ys : List ℕ) → Grows xs (xs ++ ys)
grows_by xs ys = record { more = ys; is = refl }

pub grows_twice : (xs ys zs : List ℕ) → Grows xs ys → Grows ys zs → Grows xs zs
grows_twice xs ys zs g h = record { more = g.more ++ h.more; is = h.is ∙ ap (λ l. l ++ h.more) g.is ∙ append_assoc xs g.more h.more }

-- an append that may be refused
pub grows_extend : {E : Type 0} (r : Result (Unit {0}) E) (old new other : List ℕ) → new ≡ (if is_ok r then old ++ other else old) → Grows old new
grows_extend (Ok x) old new other e = record { more = other; is = e }
grows_extend (Err x) old new other e = record { more = []; is = e ∙ sym (append-nil old) }

-- what it was comes back if all after it is cut off
pub cut_back : (old new : List ℕ) → Grows old new → take (length old) new ≡ old
cut_back old new g = ap (take (length old)) g.is ∙ take_at old g.more (length old) refl
