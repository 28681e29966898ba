-- No two updates of a run have one unique.
use Rattle.std.proofs.Common.{◌≡◌, ℕ, zero, suc, ◌+◌, ◌*◌, ◌<◌, ◌≤◌, ◌⊎◌, inl, inr, List, [], ◌∷◌, ◌++◌, refl, sym, ap, ◌∙◌, arith}
use Rattle.states.specs.State.{StateView}
use Rattle.run_laws.specs.Run.{Executed, IsOver, IsRunFrom}
use Rattle.memcached_spec.specs.Server.{Line, uniques}
use Rattle.linear_laws.proofs.Rounds.{count, count-append, uniques-append}
use Rattle.linear_laws.proofs.Runs.{IsMadeOf}

split : (lines xs ys : List Line) (u : ℕ) → lines ≡ xs ++ ys → count u (uniques lines) ≡ count u (uniques xs) + count u (uniques ys)
split lines xs ys u e = ap (λ l. count u (uniques l)) e ∙ ap (count u) (uniques-append xs ys) ∙ count-append u (uniques xs) (uniques ys)

none_or_some : (n : ℕ) → (n ≡ 0) ⊎ (0 < n)
none_or_some zero = inl refl
none_or_some (suc n) = inr (omega arith)

batch_number : (s : StateView) (e : Executed) → IsOver s e → e.batch.n ≡ s.number + 1
batch_number s e h = sym h.round.number ∙ h.next

-- uniques of later rounds are higher
not_low : (s : StateView) (run : List Executed) (lines : List Line) (u : ℕ) → IsRunFrom s run → IsMadeOf s run lines → u < 64 * (s.number + 1) → count u (uniques lines) ≡ 0
not_low s [] lines u h made low = ap (λ l. count u (uniques l)) made
not_low s (e ∷ run) lines u h made low =
    let number = h.0.next in
    let n = batch_number s e h.0 in
    let later = not_low e.new run made.1 u h.1 made.4 (omega (arith, low, number)) in
    let parts = split lines made.0 made.1 u made.2 in
    elim (none_or_some (count u (uniques made.0))) [
      | inl none ↦ omega (arith, parts, none, later)
      | inr some ↦ let w = made.3.within u some in let at = w.0 in absurd (omega (arith, at, low, n))
    ]

pub all_fresh : (s : StateView) (run : List Executed) (lines : List Line) → IsRunFrom s run → IsMadeOf s run lines → (unique : ℕ) → count unique (uniques lines) ≤ 1
all_fresh s [] lines h made u = let e : count u (uniques lines) ≡ 0 = ap (λ l. count u (uniques l)) made in omega (arith, e)
all_fresh s (e ∷ run) lines h made u =
    let parts = split lines made.0 made.1 u made.2 in
    let few = made.3.few u in
    elim (none_or_some (count u (uniques made.0))) [
      | inl none ↦ let later = all_fresh e.new run made.1 h.1 made.4 u in omega (arith, parts, none, later)
      | inr some ↦
          let w = made.3.within u some in
          let high = w.1 in
          let n = batch_number s e h.0 in
          let number = h.0.next in
          let later = not_low e.new run made.1 u h.1 made.4 (omega (arith, high, n, number)) in
          omega (arith, parts, few, later)
    ]
