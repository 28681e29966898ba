-- The two logs of a history are those of its one order.
use Rattle.std.proofs.Common.{◌≡◌, ℕ, List, [], ◌∷◌, ◌++◌, refl, ap, ◌∙◌}
use Rattle.std.specs.declared.alloc.Global.{Global}
use Rattle.std.specs.declared.vec.Vec.{Vec}
use Rattle.std.proofs.lemmas.List.{append-nil, map-append}
use Rattle.connections.specs.declared.history.Passing.TheVariants as passing
use Rattle.connections.specs.declared.history.Hearing.{Hearing}
use Rattle.connections.specs.declared.history.PassedAs.{PassedAs}
use Rattle.connections.specs.Logs.{logged, logged_one, heard_one, heard_logged, passed_one, passed_logged}
use Rattle.connections.specs.History.{Passed, heard_as, given_as, moment_as, heard_among, given_among, moments_among}

pub logged_more : {K : Type 0} (log : List (K × Vec ℕ Global)) (e : K × Vec ℕ Global) → logged (log ++ e ∷ []) ≡ logged log ++ logged_one e ∷ []
logged_more log e = map-append logged_one log (e ∷ [])

pub heard_logged_more : (log : List (Hearing × Vec ℕ Global)) (e : Hearing × Vec ℕ Global) → heard_logged (log ++ e ∷ []) ≡ heard_logged log ++ heard_one e ∷ []
heard_logged_more log e = map-append heard_one log (e ∷ [])

pub passed_logged_more : (log : List (PassedAs × Vec ℕ Global)) (e : PassedAs × Vec ℕ Global) → passed_logged (log ++ e ∷ []) ≡ passed_logged log ++ passed_one e ∷ []
passed_logged_more log e = map-append passed_one log (e ∷ [])

-- ---- what was there first comes first

pub heard_both : (early late : List Passed) → heard_among (early ++ late) ≡ heard_among early ++ heard_among late
heard_both [] late = refl
heard_both ((passing.Heard n, bytes) ∷ early) late = ap (λ (log : List (ℕ × List ℕ)). (n, bytes) ∷ log) (heard_both early late)
heard_both ((passing.Given n, bytes) ∷ early) late = heard_both early late
heard_both ((passing.Moment m, bytes) ∷ early) late = heard_both early late

pub given_both : (early late : List Passed) → given_among (early ++ late) ≡ given_among early ++ given_among late
given_both [] late = refl
given_both ((passing.Heard n, bytes) ∷ early) late = given_both early late
given_both ((passing.Given n, bytes) ∷ early) late = ap (λ (log : List (ℕ × List ℕ)). (n, bytes) ∷ log) (given_both early late)
given_both ((passing.Moment m, bytes) ∷ early) late = given_both early late

pub moments_both : (early late : List Passed) → moments_among (early ++ late) ≡ moments_among early ++ moments_among late
moments_both [] late = refl
moments_both ((passing.Heard n, bytes) ∷ early) late = moments_both early late
moments_both ((passing.Given n, bytes) ∷ early) late = moments_both early late
moments_both ((passing.Moment m, bytes) ∷ early) late = ap (λ (moments : List ℕ). m ∷ moments) (moments_both early late)

-- ---- one thing more

module _ (number : ℕ) (bytes : List ℕ) where
  pub heard_more : (passed : List Passed) → heard_among (passed ++ heard_as number bytes ∷ []) ≡ heard_among passed ++ (number, bytes) ∷ []
  heard_more passed = heard_both passed (heard_as number bytes ∷ [])

  pub given_more : (passed : List Passed) → given_among (passed ++ given_as number bytes ∷ []) ≡ given_among passed ++ (number, bytes) ∷ []
  given_more passed = given_both passed (given_as number bytes ∷ [])

  pub nothing_heard : (passed : List Passed) → heard_among (passed ++ given_as number bytes ∷ []) ≡ heard_among passed
  nothing_heard passed = heard_both passed (given_as number bytes ∷ []) ∙ append-nil (heard_among passed)

  pub nothing_given : (passed : List Passed) → given_among (passed ++ heard_as number bytes ∷ []) ≡ given_among passed
  nothing_given passed = given_both passed (heard_as number bytes ∷ []) ∙ append-nil (given_among passed)

module _ (moment : ℕ) where
  pub moment_unheard : (passed : List Passed) → heard_among (passed ++ moment_as moment ∷ []) ≡ heard_among passed
  moment_unheard passed = heard_both passed (moment_as moment ∷ []) ∙ append-nil (heard_among passed)

  pub moment_not_given : (passed : List Passed) → given_among (passed ++ moment_as moment ∷ []) ≡ given_among passed
  moment_not_given passed = given_both passed (moment_as moment ∷ []) ∙ append-nil (given_among passed)
