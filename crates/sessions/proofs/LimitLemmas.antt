-- Entries keep their limits when one is put, and are no more than there are numbers of clients.
use Rattle.std.proofs.Common.{◌≡◌, ℕ, suc, ◌+◌, ◌-◌, ◌<◌, ◌≤◌, true, List, [], ◌∷◌, length, get_or, All, Result, Ok, Err, OnOk, OnErr, refl, arith, subst}
use Rattle.std.specs.Prelude.{◌&&◌}
use Rattle.std.specs.Ordering.{nat_cmp, is_lt}
use Rattle.std.specs.Cmp.{ranked}
use Rattle.std.specs.declared.cmp.Ordering.{Ordering}
use Rattle.std.specs.declared.cmp.Ordering.TheVariants.{Less, Equal, Greater}
use Rattle.std.specs.FinMap.{put, is_sorted}
use Rattle.std.specs.FinMap.Entries.{below_all, by_order}
use Rattle.std.proofs.lemmas.Bool.{and_parts}
use Rattle.std.proofs.lemmas.List.Elements.{All-cons}
use Rattle.sessions.specs.declared.sessions.LastReply.{LastReply}
use Rattle.sessions.specs.declared.sessions.TheConstants.{MOST_CLIENTS}
use Rattle.sessions.specs.Limits.{SessionFits, KeptFits}

first_of : (e : ℕ × LastReply) (es : List (ℕ × LastReply)) → All SessionFits (e ∷ es) → SessionFits e
first_of e es all = all 0 e (omega arith)

others_of : (e : ℕ × LastReply) (es : List (ℕ × LastReply)) → All SessionFits (e ∷ es) → All SessionFits es
others_of e es all = λ i d within. all (suc i) d (omega (arith, within))

all_put : (k : ℕ) (v : LastReply) (es : List (ℕ × LastReply)) → All SessionFits es → SessionFits (k, v) → All SessionFits (put nat_cmp k v es)
all_put k v [] all fits = All-cons SessionFits (k, v) [] fits all
all_put k v (e ∷ es) all fits = by (all_put k v es (others_of e es all) fits) (nat_cmp k e.0)
  where
    by : All SessionFits (put nat_cmp k v es) → (r : Ordering) → All SessionFits (by_order r ((k, v) ∷ e ∷ es) ((e.0, v) ∷ es) (e ∷ put nat_cmp k v es))
    by later Less = All-cons SessionFits (k, v) (e ∷ es) fits all
    by later Equal = All-cons SessionFits (e.0, v) es (record { client = (first_of e es all).client; kept = fits.kept }) (others_of e es all)
    by later Greater = All-cons SessionFits e (put nat_cmp k v es) (first_of e es all) later

-- after a put that may fail
pub fit_after : {E : Type 0} (r : Result (Unit {0}) E) (es new : List (ℕ × LastReply)) (k : ℕ) (v : LastReply) → All SessionFits es → 1 ≤ k → KeptFits v
    → OnOk r (new ≡ put nat_cmp k v es) → OnErr r (new ≡ es) → All SessionFits new
fit_after (Ok x) es new k v all client kept ok err = rw ok (all_put k v es all (record { client = client; kept = kept }))
fit_after (Err x) es new k v all client kept ok err = rw err all

less_is : (a b : ℕ) → is_lt (nat_cmp a b) ≡ true → a < b
less_is a b h = by (nat_cmp a b) refl h
  where
    by : (r : Ordering) → r ≡ nat_cmp a b → is_lt r ≡ true → a < b
    by Less e h = ranked a b Less e
    by Equal e h = absurd (cc h)
    by Greater e h = absurd (cc h)

-- keys that rise from a on, and stay below n, are few
few_below : (n : ℕ) (es : List (ℕ × LastReply)) (e d : ℕ × LastReply) (a : ℕ) → is_sorted nat_cmp (e ∷ es) ≡ true → a ≤ e.0 → (get_or (e ∷ es) (length es) d).0 < n → length (e ∷ es) + a ≤ n
few_below n [] e d a sorted low last = omega (arith, low, last)
few_below n (x ∷ es) e d a sorted low last =
    let parts = and_parts (is_lt (nat_cmp e.0 x.0) && below_all nat_cmp e.0 es) (is_sorted nat_cmp (x ∷ es)) sorted in
    let next : e.0 < x.0 = less_is e.0 x.0 (and_parts (is_lt (nat_cmp e.0 x.0)) (below_all nat_cmp e.0 es) parts.0).0 in
    let later = few_below n es x d (a + 1) parts.1 (omega (arith, low, next)) last in
    omega (arith, later)

sorted_few : (n : ℕ) (es : List (ℕ × LastReply)) (d : ℕ × LastReply) → is_sorted nat_cmp es ≡ true → 0 < length es → (get_or es (length es - 1) d).0 < n → length es ≤ n
sorted_few n [] d sorted some last = absurd (omega arith)
sorted_few n (e ∷ es) d sorted some last =
    let at : length es + 1 - 1 ≡ length es = omega arith in
    let bound : (get_or (e ∷ es) (length es) d).0 < n = subst (λ (k : ℕ). (get_or (e ∷ es) k d).0 < n) (omega arith) last in
    omega (arith, few_below n es e d 0 sorted (omega arith) bound)

pub rise_few : (es : List (ℕ × LastReply)) (last : ℕ) → is_sorted nat_cmp es ≡ true → 0 < length es → ((d : ℕ × LastReply) → (get_or es (length es - 1) d).0 ≡ last) → last < MOST_CLIENTS → length es ≤ MOST_CLIENTS
rise_few [] last sorted some is fits = absurd (omega arith)
rise_few (e ∷ es) last sorted some is fits = sorted_few MOST_CLIENTS (e ∷ es) e sorted some (omega (arith, is e, fits))
