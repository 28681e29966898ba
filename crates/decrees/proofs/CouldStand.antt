-- What stands after the decrees of a log could stand there, if what stands before them could.
use Rattle.std.proofs.Common.{◌≡◌, ℕ, ◌+◌, ◌≤◌, Bool, true, false, List, [], ◌∷◌, length, refl, subst, arith, nat_le, not}
use Rattle.std.specs.Prelude.{◌==◌, ◌||◌}
use Rattle.std.proofs.lemmas.Bool.{and_parts, and_from, eqb-true, eq-eqb, le-leb, leb-true}
use Rattle.decrees.specs.declared.decree.Decree.{Decree}
use Rattle.decrees.specs.declared.decree.Decree.TheVariants.{Commit, Rollback}
use Rattle.decrees.specs.declared.standing.Standing.{Standing}
use Rattle.decrees.specs.Standing.{first_standing, standing_after, standing, may_follow, is_log_from, is_log}
use Rattle.decrees.specs.Start.{stands_from, has_no_token, began_first, could_stand}

-- what could stand, part by part
pub record Could (place : ℕ) (s : Standing) : Type 0 where
  pub counted : s.n + s.epoch ≡ place + 1
  pub begun : 1 ≤ s.epoch
  pub first : 1 ≤ s.start
  pub next : s.start ≤ s.n + 1
  pub none : has_no_token s ≡ true
  pub early : began_first s ≡ true

pub could_parts : (place : ℕ) (s : Standing) → could_stand place s ≡ true → Could place s
could_parts place s h =
    let a = and_parts ((s.n + s.epoch) == (place + 1)) _ h in
    let b = and_parts (nat_le 1 s.epoch) _ a.1 in
    let c = and_parts (nat_le 1 s.start) _ b.1 in
    let d = and_parts (nat_le s.start (s.n + 1)) _ c.1 in
    let e = and_parts (has_no_token s) (began_first s) d.1 in
    record {
      counted = eqb-true (s.n + s.epoch) (place + 1) a.0;
      begun = leb-true 1 s.epoch b.0;
      first = leb-true 1 s.start c.0;
      next = leb-true s.start (s.n + 1) d.0;
      none = e.0;
      early = e.1;
    }

or_apart : (a b : ℕ) (x : Bool) → (a ≡ b → ⊥) → (not (a == b) || x) ≡ true
or_apart a b x apart = by (a == b) refl
  where
    by : (c : Bool) → (a == b) ≡ c → (not c || x) ≡ true
    by false e = refl
    by true e = absurd (apart (eqb-true a b e))

could_next : (place : ℕ) (s : Standing) (d : Decree) → Could place s → may_follow s d ≡ true → Could (place + 1) (standing_after s d)
could_next place s (Commit n t) c may =
    let next = eqb-true n (s.n + 1) may in
    record {
      counted = omega (arith, next, c.counted);
      begun = c.begun;
      first = c.first;
      next = omega (arith, next, c.next);
      none = or_apart n 0 _ (λ z. omega (arith, next, z));
      early = c.early;
    }
could_next place s Rollback c may = record {
  counted = omega (arith, c.counted);
  begun = omega (arith, c.begun);
  first = omega arith;
  next = omega arith;
  none = c.none;
  early = or_apart (s.epoch + 1) 1 _ (λ z. omega (arith, z, c.begun));
}

pub could_from : (ds : List Decree) (place : ℕ) (s : Standing) → Could place s → is_log_from s ds ≡ true → Could (place + length ds) (stands_from s ds)
could_from [] place s c h = subst (λ p. Could p s) (let z : place ≡ place + 0 = omega arith in z) c
could_from (d ∷ ds) place s c h =
    let p = and_parts (may_follow s d) (is_log_from (standing_after s d) ds) h in
    let more = could_from ds (place + 1) (standing_after s d) (could_next place s d c p.0) p.1 in
    subst (λ p. Could p (stands_from (standing_after s d) ds)) (let z : (place + 1) + length ds ≡ place + length (d ∷ ds) = omega arith in z) more

pub could_is : (place : ℕ) (s : Standing) → Could place s → could_stand place s ≡ true
could_is place s c =
    and_from ((s.n + s.epoch) == (place + 1)) _ (eq-eqb (s.n + s.epoch) (place + 1) c.counted)
    (and_from (nat_le 1 s.epoch) _ (le-leb 1 s.epoch c.begun)
    (and_from (nat_le 1 s.start) _ (le-leb 1 s.start c.first)
    (and_from (nat_le s.start (s.n + 1)) _ (le-leb s.start (s.n + 1) c.next)
    (and_from (has_no_token s) (began_first s) c.none c.early))))

-- what stands later could, if what stands before could
pub stands_later : (place : ℕ) (s : Standing) (ds : List Decree) → could_stand place s ≡ true → is_log_from s ds ≡ true → could_stand (place + length ds) (stands_from s ds) ≡ true
stands_later place s ds could h = could_is (place + length ds) (stands_from s ds) (could_from ds place s (could_parts place s could) h)

pub logs_stand : (log : List Decree) → is_log log ≡ true → could_stand (length log) (standing log) ≡ true
logs_stand log h =
    let c = could_from log 0 first_standing (record { counted = refl; begun = omega arith; first = omega arith; next = omega arith; none = refl; early = refl }) h in
    could_is (length log) (standing log) (subst (λ p. Could p (standing log)) (let z : 0 + length log ≡ length log = omega arith in z) c)
