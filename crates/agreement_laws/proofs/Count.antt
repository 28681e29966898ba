-- Two quorums share a member.
use Rattle.std.proofs.Common.{◌≡◌, ℕ, zero, suc, ◌+◌, ◌<◌, ◌≤◌, Bool, true, false, not, IsTrue, refl, ap, ⊎_elim, arith, if◌then◌else◌}
use Rattle.std.proofs.lemmas.Bool.{cases_Bool, ltb-true}
use Rattle.decrees.specs.Count.{count_below, member_count}
use Rattle.agreement_laws.specs.Letters.{Quorum}

pub count_true : (f : ℕ → Bool) (n : ℕ) → f n ≡ true → count_below f (suc n) ≡ count_below f n + 1
count_true f n e = ap (λ (b : Bool). count_below f n + (if b then 1 else 0)) e

pub count_false : (f : ℕ → Bool) (n : ℕ) → f n ≡ false → count_below f (suc n) ≡ count_below f n
count_false f n e = let same : count_below f (suc n) ≡ count_below f n + 0 = ap (λ (b : Bool). count_below f n + (if b then 1 else 0)) e in omega (arith, same)

count_up : (f : ℕ → Bool) (n : ℕ) → count_below f (suc n) ≤ count_below f n + 1
count_up f n = ⊎_elim (λ (t : f n ≡ true). omega (arith, count_true f n t)) (λ (t : f n ≡ false). omega (arith, count_false f n t)) (cases_Bool (f n))

-- together they pass more than there are, so one passes both
shared : (f g : ℕ → Bool) (n : ℕ) → n < count_below f n + count_below g n → (v : ℕ) × (v < n) × (f v ≡ true) × (g v ≡ true)
shared f g zero h = absurd (omega arith)
shared f g (suc n) h =
    ⊎_elim
    (λ (a : f n ≡ true). ⊎_elim
    (λ (b : g n ≡ true). (n, omega arith, a, b))
    (λ (b : g n ≡ false). let r = shared f g n (omega (arith, count_true f n a, count_false g n b)) in (r.0, omega (arith, r.1), r.2, r.3))
    (cases_Bool (g n)))
    (λ (a : f n ≡ false). let r = shared f g n (omega (arith, count_false f n a, count_up g n)) in (r.0, omega (arith, r.1), r.2, r.3))
    (cases_Bool (f n))

-- some number passes if the count is above 0
someone : (f : ℕ → Bool) (n : ℕ) → 0 < count_below f n → (v : ℕ) × (v < n) × (f v ≡ true)
someone f zero h = absurd (omega arith)
someone f (suc n) h =
    ⊎_elim
    (λ (a : f n ≡ true). (n, omega arith, a))
    (λ (a : f n ≡ false). let r = someone f n (omega (arith, h, count_false f n a)) in (r.0, omega (arith, r.1), r.2))
    (cases_Bool (f n))

-- what passes one test passes another
pub count_more : (f g : ℕ → Bool) (n : ℕ) → ((v : ℕ) → v < n → f v ≡ true → g v ≡ true) → count_below f n ≤ count_below g n
count_more f g zero h = omega arith
count_more f g (suc n) h =
    let rest = count_more f g n (λ v below. h v (omega arith)) in
    ⊎_elim
    (λ (a : f n ≡ true). omega (arith, rest, count_true f n a, count_true g n (h n (omega arith) a)))
    (λ (a : f n ≡ false). ⊎_elim
    (λ (b : g n ≡ true). omega (arith, rest, count_false f n a, count_true g n b))
    (λ (b : g n ≡ false). omega (arith, rest, count_false f n a, count_false g n b))
    (cases_Bool (g n)))
    (cases_Bool (f n))

pub Quorum-enough : {u : ℕ} {P : ℕ → Type 0} (q : Quorum u P) → u < count_below q.member (member_count u)
Quorum-enough {u} {P} q = ltb-true u (count_below q.member (member_count u)) q.enough

pub Quorum-shared : {u : ℕ} {P Q : ℕ → Type 0} → Quorum u P → Quorum u Q → (v : ℕ) × P v × Q v
Quorum-shared {u} {P} {Q} p q =
    let s = shared p.member q.member (member_count u) (omega (arith, Quorum-enough p, Quorum-enough q)) in
    (s.0, p.each s.0 s.1 s.2, q.each s.0 s.1 s.3)

pub Quorum-someone : {u : ℕ} {P : ℕ → Type 0} → Quorum u P → (v : ℕ) × P v
Quorum-someone {u} {P} p =
    let s = someone p.member (member_count u) (omega (arith, Quorum-enough p)) in
    (s.0, p.each s.0 s.1 s.2)

pub Quorum-weaker : {u : ℕ} {P Q : ℕ → Type 0} → ((v : ℕ) → P v → Q v) → Quorum u P → Quorum u Q
Quorum-weaker {u} {P} {Q} f p = record { member = p.member; enough = p.enough; each = λ v below e. f v (p.each v below e) }

count_rest : (f : ℕ → Bool) (n : ℕ) → count_below f n + count_below (λ v. not (f v)) n ≡ n
count_rest f zero = refl
count_rest f (suc n) = ⊎_elim
    (λ (t : f n ≡ true). omega (arith, count_rest f n, count_true f n t, count_false (λ v. not (f v)) n (ap not t)))
    (λ (t : f n ≡ false). omega (arith, count_rest f n, count_false f n t, count_true (λ v. not (f v)) n (ap not t)))
    (cases_Bool (f n))

-- if at most u are lost, a quorum has a member that is not
pub Quorum-outside : {u : ℕ} {P : ℕ → Type 0} (lost : ℕ → Bool) → count_below lost (member_count u) ≤ u → Quorum u P → (v : ℕ) × (v < member_count u) × IsTrue (not (lost v)) × P v
Quorum-outside {u} {P} lost few p =
    let s = shared (λ v. not (lost v)) p.member (member_count u) (omega (arith, Quorum-enough p, count_rest lost (member_count u))) in
    (s.0, s.1, s.2, p.each s.0 s.1 s.3)
