-- Beginnings of the chosen decrees, and what stands after them.
use Rattle.std.proofs.Common.{◌≡◌, ℕ, zero, suc, ◌+◌, ◌-◌, ◌<◌, ◌≤◌, ◌⊎◌, List, [], ◌∷◌, ◌++◌, length, take, Some, slice_get, inl, inr, refl, sym, ◌∙◌, ap, subst, ⊎_elim, arith}
use Rattle.std.proofs.lemmas.Bool.{cases_order}
use Rattle.std.proofs.lemmas.Option.{slice_get_within}
use Rattle.std.proofs.lemmas.List.Sums.{fold-append}
use Rattle.token.specs.declared.Token as token
use Rattle.decrees.specs.declared.decree.Decree.{Decree}
use Rattle.decrees.specs.declared.decree.Decree.TheVariants.{Commit, Rollback}
use Rattle.decrees.specs.declared.standing.Standing.{Standing}
use Rattle.decrees.specs.Standing.{standing, first_standing, standing_after}

pub take_next : (xs : List Decree) (k : ℕ) (c : Decree) → slice_get xs k ≡ Some c → take (suc k) xs ≡ take k xs ++ c ∷ []
take_next [] k c e = absurd (cc)
take_next (x ∷ xs) zero c e = let same : x ≡ c = cc in ap (λ y. y ∷ []) same
take_next (x ∷ xs) (suc k) c e = ap (λ y. x ∷ y) (take_next xs k c e)

pub take_front : (xs ys : List Decree) (k : ℕ) → k ≤ length xs → take k (xs ++ ys) ≡ take k xs
take_front xs ys zero h = refl
take_front [] ys (suc k) h = absurd (omega arith)
take_front (x ∷ xs) ys (suc k) h = ap (λ y. x ∷ y) (take_front xs ys k (omega arith))

pub take_whole : (xs : List Decree) → take (length xs) xs ≡ xs
take_whole [] = refl
take_whole (x ∷ xs) = ap (λ y. x ∷ y) (take_whole xs)

pub some_at : {A : Type 0} (xs : List A) (i : ℕ) → i < length xs → (x : A) × (slice_get xs i ≡ Some x)
some_at [] i h = absurd (omega arith)
some_at (x ∷ xs) zero h = (x, refl)
some_at (x ∷ xs) (suc i) h = some_at xs i (omega arith)

pub get_front : {A : Type 0} (xs ys : List A) (i : ℕ) (x : A) → slice_get xs i ≡ Some x → slice_get (xs ++ ys) i ≡ Some x
get_front [] ys i x e = absurd (cc)
get_front (y ∷ xs) ys zero x e = e
get_front (y ∷ xs) ys (suc i) x e = get_front xs ys i x e

pub get_push : {A : Type 0} (xs : List A) (c b : A) (i : ℕ) → slice_get (xs ++ c ∷ []) i ≡ Some b → (slice_get xs i ≡ Some b) ⊎ ((i ≡ length xs) × (b ≡ c))
get_push [] c b zero e = inr (refl, cc)
get_push [] c b (suc i) e = absurd (cc)
get_push (x ∷ xs) c b zero e = inl e
get_push (x ∷ xs) c b (suc i) e = ⊎_elim inl (λ p. inr (ap suc p.0, p.1)) (get_push xs c b i e)

pub length_push : {A : Type 0} (xs : List A) (c : A) → length (xs ++ c ∷ []) ≡ suc (length xs)
length_push [] c = refl
length_push (x ∷ xs) c = ap suc (length_push xs c)

pub stands_next : (log : List Decree) (k : ℕ) (c : Decree) → slice_get log k ≡ Some c → standing (take (suc k) log) ≡ standing_after (standing (take k log)) c
stands_next log k c e = ap standing (take_next log k c e) ∙ fold-append standing_after first_standing (take k log) (c ∷ [])

-- each Commit is of the next number
pub record Numbered (log : List Decree) : Type 0 where
  pub next : (i n : ℕ) (t : token.Token) → slice_get log i ≡ Some (Commit n t) → n ≡ suc (standing (take i log)).n

-- numbers and epochs only rise
abbrev Rises : List Decree → ℕ → ℕ → Type 0
Rises log j k = ((standing (take j log)).n ≤ (standing (take k log)).n) × ((standing (take j log)).epoch ≤ (standing (take k log)).epoch)

rise_one : {log : List Decree} (ok : Numbered log) (k : ℕ) (c : Decree) → slice_get log k ≡ Some c → Rises log k (suc k)
rise_one {log} ok k (Commit n t) e =
    let s = stands_next log k (Commit n t) e in
    (omega (arith, ap (λ (x : Standing). x.n) s, ok.next k n t e), omega (arith, ap (λ (x : Standing). x.epoch) s))
rise_one {log} ok k Rollback e =
    let s = stands_next log k Rollback e in
    (omega (arith, ap (λ (x : Standing). x.n) s), omega (arith, ap (λ (x : Standing). x.epoch) s))

rises : {log : List Decree} (ok : Numbered log) (gap j k : ℕ) → j + gap ≡ k → k ≤ length log → Rises log j k
rises {log} ok zero j k e h = subst (Rises log j) (let q : j ≡ k = omega (arith, e) in q) (omega arith, omega arith)
rises {log} ok (suc gap) j k e h =
    let c = some_at log j (omega (arith, e)) in
    let one = rise_one ok j c.0 c.1 in
    let rest = rises ok gap (suc j) k (omega (arith, e)) h in
    (omega (arith, one.0, rest.0), omega (arith, one.1, rest.1))

pub rises_to : {log : List Decree} (ok : Numbered log) (j k : ℕ) → j ≤ k → k ≤ length log → Rises log j k
rises_to ok j k l h = rises ok (k - j) j k (omega arith) h

-- one Commit a number
pub one_commit : {log : List Decree} (ok : Numbered log) (i j n : ℕ) (a b : token.Token) → slice_get log i ≡ Some (Commit n a) → slice_get log j ≡ Some (Commit n b) → a ≡ b
one_commit {log} ok i j n a b p q = ⊎_elim
    (λ (e : i ≡ j). let r = subst (λ y. slice_get log y ≡ Some (Commit n a)) e p in cc)
    (⊎_elim
    (λ (l : i < j). absurd (apart i j a b l p q))
    (λ (l : j < i). absurd (apart j i b a l q p)))
    (cases_order i j)
  where
    apart : (i j : ℕ) (a b : token.Token) → i < j → slice_get log i ≡ Some (Commit n a) → slice_get log j ≡ Some (Commit n b) → ⊥
    apart i j a b l p q =
        let up = rises_to ok (suc i) j (omega arith) (omega (arith, slice_get_within log j (Commit n b) q)) in
        omega (arith, up.0, ap (λ (x : Standing). x.n) (stands_next log i (Commit n a) p), ok.next j n b q)

-- what stands was committed last
abbrev pub LastCommit : List Decree → Standing → Type 0
LastCommit log s = (s.n ≡ 0) ⊎ ((i : ℕ) × (slice_get log i ≡ Some (Commit s.n s.token)))

pub last_commit : (log : List Decree) (k : ℕ) → k ≤ length log → LastCommit log (standing (take k log))
last_commit log zero h = inl refl
last_commit log (suc k) h =
    let c = some_at log k (omega arith) in at c.0 c.1 (last_commit log k (omega arith))
  where
    at : (c : Decree) → slice_get log k ≡ Some c → LastCommit log (standing (take k log)) → LastCommit log (standing (take (suc k) log))
    at (Commit n t) e before = inr (k, subst (λ (x : Standing). slice_get log k ≡ Some (Commit x.n x.token)) (sym (stands_next log k (Commit n t) e)) e)
    at Rollback e before = subst (LastCommit log) (sym (stands_next log k Rollback e)) before
