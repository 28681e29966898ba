-- What a tick does, slot by slot.
use Rattle.std.proofs.Common.{◌≡◌, ⊎_elim, ℕ, zero, suc, ◌+◌, ◌≤◌, ◌<◌, Bool, List, [], ◌∷◌, Option, Some, None, refl, sym, ap, ◌∙◌, subst, arith, length, slice_get, slice_set}
use Rattle.std.specs.Prelude.{◌≢◌}
use Rattle.connections.proofs.SlotLemmas.{set_get, set_other, same_or_not}
use Rattle.housekeeping.specs.declared.patience.Patience.{Patience}
use Rattle.housekeeping.specs.declared.patience.Seen.{Seen}
use Rattle.housekeeping.specs.declared.patience.Urge.{Urge}
use Rattle.housekeeping.specs.declared.patience.Urge.TheVariants.{Wait, Again, Suspect}
use Rattle.housekeeping.specs.Patience.{urge_of, after_tick}
use Rattle.service.specs.declared.assignment.Outstanding.{Outstanding}
use Rattle.service.specs.Ticks.{sent_again, after_urge, waited_on, with_patience, urge_in, urge_at, SetsPatienceIn, SetsPatience, AllHaveWaited}

-- ---- slots, one after the other

module _ {X : Type 0} where
  get_below : (xs : List X) (i : ℕ) (x : X) → slice_get xs i ≡ Some x → i < length xs
  get_below [] i x e = let none : ◌≡◌ {A = Option X} None (Some x) = e in absurd (cc none)
  get_below (y ∷ xs) zero x e = omega arith
  get_below (y ∷ xs) (suc i) x e = let below = get_below xs i x e in omega (arith, below)

  set_twice : (xs : List X) (i : ℕ) (x y : X) → slice_set (slice_set xs i x) i y ≡ slice_set xs i y
  set_twice [] i x y = refl
  set_twice (z ∷ xs) zero x y = refl
  set_twice (z ∷ xs) (suc i) x y = ap (λ (zs : List X). z ∷ zs) (set_twice xs i x y)

module _ {X : Type 0} (Becomes : X → X → Type 0) where
  abbrev pub SetsIn : ℕ → List X → List X → Option X → Type 0
  SetsIn at now next None = next ≡ now
  SetsIn at now next (Some x) = (y : X) × Becomes x y × (next ≡ slice_set now at y)

  -- what is in this slot, if something is, becomes another
  abbrev pub Sets : ℕ → List X → List X → Type 0
  Sets at now next = SetsIn at now next (slice_get now at)

  -- what is in the slots below this one became another, and the rest is as it was
  pub record AreSet (at : ℕ) (first now : List X) : Type 0 where
    pub done : (i : ℕ) (x : X) → i < at → slice_get first i ≡ Some x → (y : X) × Becomes x y × (slice_get now i ≡ Some y)
    pub rest : (i : ℕ) → at ≤ i → slice_get now i ≡ slice_get first i

  pub none_set : (first now : List X) → now ≡ first → AreSet 0 first now
  none_set first now same = record {
    done = λ i x below e. absurd (omega (arith, below));
    rest = λ i above. ap (λ (xs : List X). slice_get xs i) same;
  }

  others_stay : (at i : ℕ) (now next : List X) → i ≢ at → Sets at now next → slice_get next i ≡ slice_get now i
  others_stay at i now next differs s = by (slice_get now at) s
    where
      by : (o : Option X) → SetsIn at now next o → slice_get next i ≡ slice_get now i
      by None s = ap (λ (xs : List X). slice_get xs i) s
      by (Some x) s = ap (λ (xs : List X). slice_get xs i) s.2 ∙ set_other now at s.0 i differs

  pub one_set : (at at_next : ℕ) (first now next : List X) → at_next ≡ at + 1 → AreSet at first now → Sets at now next → AreSet at_next first next
  one_set at at_next first now next more are s = record {
    done = λ i x below e. ⊎_elim
        (λ (same : i ≡ at).
        let there : slice_get now at ≡ Some x = are.rest at (omega arith) ∙ (ap (slice_get first) (sym same) ∙ e) in
        let set = subst (SetsIn at now next) there s in
        (set.0, set.1, ap (slice_get next) same ∙ (ap (λ (xs : List X). slice_get xs at) set.2 ∙ set_get now at set.0 x there)))
        (λ (differs : i ≢ at).
        let was = are.done i x (omega (arith, below, more, differs)) e in
        (was.0, was.1, others_stay at i now next differs s ∙ was.2))
        (same_or_not i at);
    rest = λ i above. others_stay at i now next (λ same. absurd (omega (arith, above, more, same))) s ∙ are.rest i (omega (arith, above, more));
  }

  pub all_set : (at : ℕ) (first now : List X) → length first ≤ at → AreSet at first now → (i : ℕ) (x : X) → slice_get first i ≡ Some x → (y : X) × Becomes x y × (slice_get now i ≡ Some y)
  all_set at first now all are i x e = let below = get_below first i x e in are.done i x (omega (arith, below, all)) e

-- ---- what waits

abbrev pub Waited : ℕ → Seen → Option Outstanding → Option Outstanding → Type 0
Waited u seen slot now = now ≡ with_patience (waited_on u seen) slot

pub patience_sets : (u : ℕ) (seen : Seen) (at : ℕ) (old new : List (Option Outstanding)) → SetsPatience (waited_on u seen) at old new → Sets (Waited u seen) at old new
patience_sets u seen at old new = by (slice_get old at)
  where
    by : (o : Option (Option Outstanding)) → SetsPatienceIn (waited_on u seen) at old new o → SetsIn (Waited u seen) at old new o
    by None s = s
    by (Some slot) s = (with_patience (waited_on u seen) slot, refl, s)

pub all_waited : (u : ℕ) (seen : Seen) (at : ℕ) (old new : List (Option Outstanding)) → length old ≤ at → AreSet (Waited u seen) at old new → AllHaveWaited u seen old new
all_waited u seen at old new all are i slot e =
    let was = all_set (Waited u seen) at old new all are i slot e in
    was.2 ∙ ap (λ (x : Option Outstanding). Some x) was.1

abbrev ticked : ℕ → Seen → Patience → Patience
ticked u seen p = after_tick u p seen

waits_calm : (u : ℕ) (seen : Seen) (slot : Option Outstanding) → urge_in u seen slot ≡ Wait → with_patience (ticked u seen) slot ≡ with_patience (waited_on u seen) slot
waits_calm u seen None calm = refl
waits_calm u seen (Some o) calm = ap (λ (g : Urge). Some (record o { patience = after_urge seen g (after_tick u o.patience seen) })) (sym calm)

urged_again : (seen : Seen) (p : Patience) (g : Urge) → g ≢ Wait → sent_again seen p ≡ after_urge seen g p
urged_again seen p Wait differs = absurd (differs refl)
urged_again seen p Again differs = refl
urged_again seen p Suspect differs = refl

waits_urged : (u : ℕ) (seen : Seen) (slot : Option Outstanding) → urge_in u seen slot ≢ Wait → with_patience (sent_again seen) (with_patience (ticked u seen) slot) ≡ with_patience (waited_on u seen) slot
waits_urged u seen None differs = absurd (differs refl)
waits_urged u seen (Some o) differs = ap (λ (p : Patience). Some (record o { patience = p })) (urged_again seen (after_tick u o.patience seen) (urge_of u o.patience seen) differs)

-- nothing is due of it
pub calm_waits : (u : ℕ) (seen : Seen) (at : ℕ) (old new : List (Option Outstanding)) → urge_at u seen (slice_get old at) ≡ Wait → SetsPatience (λ p. after_tick u p seen) at old new → SetsPatience (waited_on u seen) at old new
calm_waits u seen at old new calm s = by (slice_get old at) calm s
  where
    by : (o : Option (Option Outstanding)) → urge_at u seen o ≡ Wait → SetsPatienceIn (λ p. after_tick u p seen) at old new o → SetsPatienceIn (waited_on u seen) at old new o
    by None calm s = s
    by (Some slot) calm s = s ∙ ap (slice_set old at) (waits_calm u seen slot calm)

-- it is sent again
pub urged_waits : (u : ℕ) (seen : Seen) (at : ℕ) (old mid new : List (Option Outstanding)) → urge_at u seen (slice_get old at) ≢ Wait → SetsPatience (λ p. after_tick u p seen) at old mid → SetsPatience (sent_again seen) at mid new → SetsPatience (waited_on u seen) at old new
urged_waits u seen at old mid new due s t = by (slice_get old at) refl due s
  where
    by : (o : Option (Option Outstanding)) → slice_get old at ≡ o → urge_at u seen o ≢ Wait → SetsPatienceIn (λ p. after_tick u p seen) at old mid o → SetsPatienceIn (waited_on u seen) at old new o
    by None e due s = absurd (due refl)
    by (Some slot) e due s =
        let between : Option Outstanding = with_patience (λ p. after_tick u p seen) slot in
        let there : slice_get mid at ≡ Some between = ap (λ (xs : List (Option Outstanding)). slice_get xs at) s ∙ set_get old at between slot e in
        let set : new ≡ slice_set mid at (with_patience (sent_again seen) between) = subst (SetsPatienceIn (sent_again seen) at mid new) there t in
        set ∙ (ap (λ (xs : List (Option Outstanding)). slice_set xs at (with_patience (sent_again seen) between)) s ∙ (set_twice old at between (with_patience (sent_again seen) between) ∙ ap (slice_set old at) (waits_urged u seen slot due)))
