-- Ten ticks after a suspicion.
use Rattle.std.proofs.Common.{◌≡◌, ℕ, ◌+◌, ◌*◌, ◌<◌, ◌≤◌, Bool, true, false, List, [], ◌∷◌, length, refl, sym, ◌∙◌, subst, arith, eq-eqb}
use Rattle.std.specs.Prelude.{◌&&◌, ◌||◌, ◌==◌, max, nat_lt, nat_le, if◌then◌else◌}
use Rattle.std.proofs.Math.Nat.{mul-le-mul_left}
use Rattle.std.proofs.lemmas.Bool.{le-ltb, ne_eqb, or_from, and_right}
use Rattle.suspicion.specs.declared.observed.Observed.{Observed}
use Rattle.suspicion.specs.declared.suspicion.Suspicion.{Suspicion}
use Rattle.suspicion.specs.declared.suspicion.TheConstants.{LEAST_PATIENCE, WAITS, STALLED_TURN, PERIOD}
use Rattle.suspicion.specs.Suspicion.{longest_lately, patience_of, one_tick_more, with_tick, with_decree, with_period, observed, is_stalled, is_away, is_leaderless, may_again, may_suspect}
use Rattle.suspicion.specs.Run.{suspects_at, after_tick_at, KnowsNoMore, SuspectsNever}

-- no decree came, and the wait is one tick longer at most
record Waits (old new : Suspicion) : Type 0 where
  factor : new.factor ≡ old.factor
  known : new.known ≡ old.known
  quiet : new.quiet ≤ old.quiet + 1

tick_waits : (b : Bool) (s : Suspicion) → Waits s (if b then record s { gap = one_tick_more s.gap; quiet = one_tick_more s.quiet; age = one_tick_more s.age } else record s { gap = 0; quiet = 0 })
tick_waits true s = record { factor = refl; known = refl; quiet = omega arith }
tick_waits false s = record { factor = refl; known = refl; quiet = omega arith }

same_decree : (known : ℕ) (s : Suspicion) → s.known ≡ known → with_decree known s ≡ s
same_decree known s e = rw (eq-eqb s.known known e) refl

period_waits : (b is_waiting : Bool) (old s : Suspicion) → Waits old s → Waits old (record (if b then record s { longest = 0; earlier = s.longest; age = 0 } else s) { was_waiting = is_waiting })
period_waits true is_waiting old s w = record { factor = w.factor; known = w.known; quiet = w.quiet }
period_waits false is_waiting old s w = record { factor = w.factor; known = w.known; quiet = w.quiet }

waits : (s : Suspicion) (seen : Observed) → seen.known ≡ s.known → Waits s (observed s seen)
waits s seen same =
    let t = tick_waits s.was_waiting s in
    let e : with_decree seen.known (with_tick s) ≡ with_tick s = same_decree seen.known (with_tick s) (t.known ∙ sym same) in
    subst (λ (d : Suspicion). Waits s (record (with_period d) { was_waiting = seen.is_waiting })) (sym e)
    (period_waits (nat_le PERIOD (with_tick s).age) seen.is_waiting s (with_tick s) t)

-- a patience that was doubled is a second at least
is_long : (s : Suspicion) → 1 < s.factor → 2 * LEAST_PATIENCE ≤ patience_of s
is_long s many =
    let more : max (WAITS * longest_lately s) LEAST_PATIENCE * 2 ≤ max (WAITS * longest_lately s) LEAST_PATIENCE * s.factor = mul-le-mul_left (max (WAITS * longest_lately s) LEAST_PATIENCE) many in
    omega (arith, more)

patient : (u : ℕ) (s : Suspicion) (seen : Observed) → 1 < s.factor → s.quiet ≤ 2 * LEAST_PATIENCE → may_suspect u s seen ≡ false
patient u s seen many short =
    let long = is_long s many in
    let stalled : is_stalled s seen ≡ false = le-ltb (patience_of s + STALLED_TURN * seen.rank) s.quiet (omega (arith, long, short)) in
    let again : may_again s ≡ false = or_from (s.factor == 1) (nat_lt (patience_of s) s.quiet) (ne_eqb s.factor 1 (λ e. omega (arith, e, many))) (le-ltb (patience_of s) s.quiet (omega (arith, long, short))) in
    and_right (nat_le u seen.peers && seen.is_waiting) (is_stalled s seen || is_leaderless s seen)
    (or_from (is_stalled s seen) (is_leaderless s seen) stalled (and_right (is_away seen) (may_again s) again))

stays : (u : ℕ) (s : Suspicion) (seen : Observed) → suspects_at u s seen ≡ false → after_tick_at u s seen ≡ observed s seen
stays u s seen e = rw e refl

never : (u : ℕ) (s : Suspicion) (looks : List Observed) → 1 < s.factor → KnowsNoMore s.known looks → s.quiet + length looks ≤ 2 * LEAST_PATIENCE → SuspectsNever u s looks
never u s [] many same few = tt
never u s (seen ∷ looks) many same few =
    let w = waits s seen same.0 in
    let count : length (seen ∷ looks) ≡ 1 + length looks = omega arith in
    let short : (observed s seen).quiet + length looks ≤ 2 * LEAST_PATIENCE = (let q = w.quiet in omega (arith, q, few, count)) in
    let not_now : suspects_at u s seen ≡ false = patient u (observed s seen) seen (subst (λ (n : ℕ). 1 < n) (sym w.factor) many) (omega (arith, short)) in
    let later = never u (observed s seen) looks (subst (λ (n : ℕ). 1 < n) (sym w.factor) many) (subst (λ (n : ℕ). KnowsNoMore n looks) (sym w.known) same.1) short in
    (not_now, subst (λ (t : Suspicion). SuspectsNever u t looks) (sym (stays u s seen not_now)) later)

pub apart : (u : ℕ) (s : Suspicion) (looks : List Observed) → s.quiet ≡ 0 → 1 < s.factor → KnowsNoMore s.known looks → length looks ≤ 2 * LEAST_PATIENCE → SuspectsNever u s looks
apart u s looks anew many same few = never u s looks many same (omega (arith, anew, few))
