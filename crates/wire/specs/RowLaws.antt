-- Rows of fields, and values that are made of a row.
use Rattle.std.proofs.Common.{◌≡◌, ℕ, List, ◌∷◌, ◌++◌, sym, ◌∙◌, ap, subst}
use Rattle.std.specs.Int.{w16, w32, w64}
use Rattle.wire.specs.Record.{IsPrefixFree}
use Rattle.wire.specs.Number.{num}
use Rattle.wire.specs.FrontLaws.{tail_of}
use Rattle.wire.specs.NumberLaws.{num_prefix_free, wide16, wide32, wide64}
use Rattle.wire.specs.FieldLaws.{pair_prefix_free}

pub u16_free : IsPrefixFree (num w16)
u16_free = num_prefix_free w16 wide16

pub u32_free : IsPrefixFree (num w32)
u32_free = num_prefix_free w32 wide32

pub u64_free : IsPrefixFree (num w64)
u64_free = num_prefix_free w64 wide64

-- one field after another
pub followed : {X Y : Type 0} {first : X → List ℕ} {second : Y → List ℕ} → IsPrefixFree first → IsPrefixFree second → IsPrefixFree {X = X × Y} (λ p. first p.0 ++ second p.1)
followed {first = first} {second = second} a b = pair_prefix_free first second a b

-- a value that is made of a row, and encoded as the row
pub made_of : {X Y : Type 0} {row : X → List ℕ} → IsPrefixFree row → (text : Y → List ℕ) (to : Y → X) (back : X → Y)
    → ((y : Y) → back (to y) ≡ y) → ((y : Y) → text y ≡ row (to y)) → IsPrefixFree text
made_of {X} {Y} {row} free text to back again same = record {
  apart = λ v w r s e.
      let both = free.apart (to v) (to w) r s (ap (λ (t : List ℕ). t ++ r) (sym (same v)) ∙ (e ∙ ap (λ (t : List ℕ). t ++ s) (same w))) in
      (sym (again v) ∙ (ap back both.0 ∙ again w), both.1);
}

-- a row within limits that have one proof at most is identified by the row
one_pair : {X : Type 0} (limits : X → Type 0) → ((x : X) → IsProp (limits x)) → (x y : X) (a : limits x) (b : limits y) → x ≡ y → ◌≡◌ {A = (x : X) × limits x} (x, a) (y, b)
one_pair {X} limits one x y a b e = subst (λ z. (c : limits z) → ◌≡◌ {A = (x : X) × limits x} (x, a) (z, c)) e (λ c. ap (λ l. (x, l)) (one x a c)) b

-- a value that is made of a row within limits, and encoded as the row
pub made_within : {X Y : Type 0} {row : X → List ℕ} {limits : X → Type 0} → IsPrefixFree row → ((x : X) → IsProp (limits x)) → (text : Y → List ℕ) (to : Y → X) (within : (y : Y) → limits (to y))
    (back : (x : X) → limits x → Y) → ((y : Y) → back (to y) (within y) ≡ y) → ((y : Y) → text y ≡ row (to y)) → IsPrefixFree text
made_within {X} {Y} {row} {limits} free one text to within back again same = record {
  apart = λ v w r s e.
      let both = free.apart (to v) (to w) r s (ap (λ (t : List ℕ). t ++ r) (sym (same v)) ∙ (e ∙ ap (λ (t : List ℕ). t ++ s) (same w))) in
      let pairs : ◌≡◌ {A = (x : X) × limits x} (to v, within v) (to w, within w) = one_pair limits one (to v) (to w) (within v) (within w) both.0 in
      (sym (again v) ∙ (ap (λ (p : (x : X) × limits x). back p.0 p.1) pairs ∙ again w), both.1);
}

-- behind a mark
pub marked : {X : Type 0} {text : X → List ℕ} (mark : ℕ) → IsPrefixFree text → IsPrefixFree (λ x. mark ∷ text x)
marked {text = text} mark free = record { apart = λ v w r s e. free.apart v w r s (tail_of mark mark (text v ++ r) (text w ++ s) e) }
