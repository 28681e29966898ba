-- Ticks one after the other.
use Rattle.std.specs.Prelude.{◌≡◌, ℕ, Bool, false, List, [], ◌∷◌, ⊤, if◌then◌else◌}
use Rattle.suspicion.specs.declared.observed.Observed.{Observed}
use Rattle.suspicion.specs.declared.suspicion.Suspicion.{Suspicion}
use Rattle.suspicion.specs.Suspicion.{observed, may_suspect, backed_off}

-- whether it suspects the leader when this is observed at a tick
abbrev pub suspects_at : ℕ → Suspicion → Observed → Bool
suspects_at u s seen = may_suspect u (observed s seen) seen

-- what it knows after that tick
abbrev pub after_tick_at : ℕ → Suspicion → Observed → Suspicion
after_tick_at u s seen = if suspects_at u s seen then backed_off (observed s seen) else observed s seen

-- no decree is obeyed
abbrev pub KnowsNoMore : ℕ → List Observed → Type 0
KnowsNoMore known [] = ⊤
KnowsNoMore known (seen ∷ looks) = (seen.known ≡ known) × KnowsNoMore known looks

-- it suspects the leader at none of these ticks
abbrev pub SuspectsNever : ℕ → Suspicion → List Observed → Type 0
SuspectsNever u s [] = ⊤
SuspectsNever u s (seen ∷ looks) = (suspects_at u s seen ≡ false) × SuspectsNever u (after_tick_at u s seen) looks
