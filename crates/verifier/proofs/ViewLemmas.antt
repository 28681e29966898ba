-- The search for the next view that a verifier leads.
use Rattle.std.proofs.Common.{◌≡◌, ℕ, zero, suc, ◌+◌, ◌-◌, ◌<◌, ◌≤◌, true, false, refl, ap, ◌∙◌, arith}
use Rattle.std.specs.Prelude.{if◌then◌else◌}
use Rattle.verifier.specs.State.{led_from, is_led_by}

-- it goes up
pub led_from-above : (u id view n : ℕ) → view ≤ led_from u id view n
led_from-above u id view zero = omega arith
led_from-above u id view (suc n) =
    let later = led_from-above u id (view + 1) n in
    elim (is_led_by u id view) as (λ b. view ≤ (if b then view else led_from u id (view + 1) n)) [ true ↦ omega arith | false ↦ omega (arith, later) ]

-- a view that it leads is found at once
pub led_from-found : (u id view n : ℕ) → is_led_by u id view ≡ true → led_from u id view n ≡ view
led_from-found u id view zero e = refl
led_from-found u id view (suc n) e = ap (λ b. if b then view else led_from u id (view + 1) n) e

-- and one that it does not lead is passed
pub led_from-passed : (u id view n : ℕ) → 0 < n → is_led_by u id view ≡ false → led_from u id view n ≡ led_from u id (view + 1) (n - 1)
led_from-passed u id view zero h e = absurd (omega arith)
led_from-passed u id view (suc n) h e =
    let less : n ≡ suc n - 1 = omega arith in
    ap (λ b. if b then view else led_from u id (view + 1) n) e ∙ ap (led_from u id (view + 1)) less
