-- No bytes are records of two states, in either version.
use Rattle.std.proofs.Common.{◌≡◌, ℕ, Bool, true, false, not, List, [], ◌∷◌, ◌++◌, refl, sym, ap, ◌∙◌, subst, arith, replicate}
use Rattle.std.specs.Prelude.{◌==◌, ◌||◌}
use Rattle.std.specs.Int.{w8, w64}
use Rattle.std.specs.Str.{bytes_eq}
use Rattle.std.proofs.lemmas.Bool.{cond-true, cond-false, eqb-true, eq-eqb}
use Rattle.std.proofs.lemmas.Slice.Eq.{bytes_eq-Decides}
use Rattle.wire.specs.Number.{num}
use Rattle.wire.specs.Record.{IsPrefixFree}
use Rattle.wire.specs.Field.{option_text, list_text}
use Rattle.wire.specs.FrontLaws.{tail_of}
use Rattle.wire.specs.FieldLaws.{pair_prefix_free, option_prefix_free, list_prefix_free}
use Rattle.wire.specs.NumberLaws.{num_prefix_free, wide8, wide64}
use Rattle.decrees.specs.declared.standing.Standing.{Standing}
use Rattle.decrees.specs.Standing.{first_standing}
use Rattle.decrees.specs.Start.{first_start, could_stand}
use Rattle.decrees.specs.Record.{decree_text, start_text}
use Rattle.decrees.specs.RecordProofs.{decree_prefix_free, start_prefix_free}
use Rattle.decrees.proofs.CouldStand.{could_parts}
use Rattle.verifier.specs.State.{VerifierState, down}
use Rattle.verifier.specs.Record.{accepted_text, whole_text, trimmed_text, record_text}
use Rattle.verifier.specs.Row.{Head, WholeRow, TrimmedRow, head_row_text, whole_row_text, trimmed_row_text, verifier_state_of}
use Rattle.verifier.specs.Laws.{OneState}

or_second : (a b : Bool) → (not a || b) ≡ true → a ≡ true → b ≡ true
or_second true b e h = e
or_second false b e h = absurd (cc h)

-- nothing but the first standing could stand before any decree
pub first_only : (s : Standing) → could_stand 0 s ≡ true → s ≡ first_standing
first_only s h =
    let c = could_parts 0 s h in
    let n : s.n ≡ 0 = omega (arith, c.counted, c.begun) in
    let epoch : s.epoch ≡ 1 = omega (arith, c.counted, c.begun) in
    let start : s.start ≡ 1 = omega (arith, c.first, c.next, n) in
    let text = (bytes_eq-Decides s.token.0 (replicate 32 0)).0 (or_second (s.n == 0) (bytes_eq s.token.0 (replicate 32 0)) c.none (eq-eqb s.n 0 n)) in
    λ i. record { n = n i; token = record { 0 = text i }; epoch = epoch i; start = start i }

accepted_free : IsPrefixFree accepted_text
accepted_free = pair_prefix_free (num w64) decree_text (num_prefix_free w64 wide64) decree_prefix_free

numbers_free : IsPrefixFree {X = ℕ × ℕ} (λ p. num w8 p.0 ++ num w8 p.1)
numbers_free = pair_prefix_free (num w8) (num w8) (num_prefix_free w8 wide8) (num_prefix_free w8 wide8)

view_free : IsPrefixFree {X = (ℕ × ℕ) × ℕ} (λ p. (num w8 p.0.0 ++ num w8 p.0.1) ++ num w64 p.1)
view_free = pair_prefix_free (λ p. num w8 p.0 ++ num w8 p.1) (num w64) numbers_free (num_prefix_free w64 wide64)

head_free : IsPrefixFree head_row_text
head_free = pair_prefix_free (λ p. (num w8 p.0.0 ++ num w8 p.0.1) ++ num w64 p.1) (option_text accepted_text) view_free (option_prefix_free accepted_text accepted_free)

pub whole_free : IsPrefixFree whole_row_text
whole_free = pair_prefix_free head_row_text (list_text decree_text) head_free (list_prefix_free decree_text decree_prefix_free)

pub trimmed_free : IsPrefixFree trimmed_row_text
trimmed_free = pair_prefix_free (λ p. head_row_text p.0 ++ start_text p.1) (list_text decree_text) (pair_prefix_free head_row_text start_text head_free start_prefix_free) (list_prefix_free decree_text decree_prefix_free)

pub whole_apart : (a b : WholeRow) → whole_row_text a ≡ whole_row_text b → a ≡ b
whole_apart a b e = (whole_free.apart a b [] [] (ap (λ (xs : List ℕ). xs ++ []) e)).0

pub trimmed_apart : (a b : TrimmedRow) → trimmed_row_text a ≡ trimmed_row_text b → a ≡ b
trimmed_apart a b e = (trimmed_free.apart a b [] [] (ap (λ (xs : List ℕ). xs ++ []) e)).0

-- what is behind the marks
pub behind : (m : ℕ) (a b : List ℕ) → ◌≡◌ {A = List ℕ} (m ∷ 86 ∷ a) (m ∷ 86 ∷ b) → a ≡ b
behind m a b e = tail_of 86 86 a b (tail_of m m _ _ e)

abbrev pub head_in : ℕ → ℕ → VerifierState → Head
head_in u id s = (((id, u), s.view), s.accepted)

-- the version of a record
pub data Versioned (u id : ℕ) (s : VerifierState) : Type 0 where
  of_first : s.start ≡ first_start → record_text u id s ≡ whole_text u id s → Versioned u id s
  of_second : (s.start.place == 0) ≡ false → record_text u id s ≡ trimmed_text u id s → Versioned u id s

pub versioned : (u id : ℕ) (s : VerifierState) → could_stand s.start.place s.start.standing ≡ true → Versioned u id s
versioned u id s could = by (s.start.place == 0) refl
  where
    by : (b : Bool) → (s.start.place == 0) ≡ b → Versioned u id s
    by true e =
        let zero_place = eqb-true s.start.place 0 e in
        let first = first_only s.start.standing (subst (λ p. could_stand p s.start.standing ≡ true) zero_place could) in
        of_first (λ i. record { place = zero_place i; standing = first i }) (cond-true (s.start.place == 0) (whole_text u id s) (trimmed_text u id s) e)
    by false e = of_second e (cond-false (s.start.place == 0) (whole_text u id s) (trimmed_text u id s) e)

-- states that are just up, and that have one record, are one
pub text_apart : (u id : ℕ) (s t : VerifierState) → could_stand s.start.place s.start.standing ≡ true → could_stand t.start.place t.start.standing ≡ true → s ≡ down s → t ≡ down t
    → record_text u id s ≡ record_text u id t → s ≡ t
text_apart u id s t could_s could_t fresh_s fresh_t same = by (versioned u id s could_s) (versioned u id t could_t)
  where
    by : Versioned u id s → Versioned u id t → s ≡ t
    by (of_first a e) (of_first b f) =
        let both = whole_apart (head_in u id s, s.log) (head_in u id t, t.log) (behind 1 _ _ (sym e ∙ (same ∙ f))) in
        fresh_s ∙ ((λ i. verifier_state_of (both i).0 ((a ∙ sym b) i) (both i).1) ∙ sym fresh_t)
    by (of_first a e) (of_second b f) = let clash : whole_text u id s ≡ trimmed_text u id t = sym e ∙ (same ∙ f) in absurd (cc clash)
    by (of_second a e) (of_first b f) = let clash : trimmed_text u id s ≡ whole_text u id t = sym e ∙ (same ∙ f) in absurd (cc clash)
    by (of_second a e) (of_second b f) =
        let both = trimmed_apart ((head_in u id s, s.start), s.log) ((head_in u id t, t.start), t.log) (behind 2 _ _ (sym e ∙ (same ∙ f))) in
        fresh_s ∙ ((λ i. verifier_state_of (both i).0.0 (both i).0.1 (both i).1) ∙ sym fresh_t)

pub one_state : OneState
one_state u id bytes s t r q = text_apart u id s t r.begins q.begins r.fresh q.fresh (sym r.spelled ∙ q.spelled)
