-- Words that have no space, and two values parted by one.
use Rattle.std.proofs.Common.{◌≡◌, ℕ, ◌^◌, true, false, eqb, List, [], ◌∷◌, ◌++◌, Option, Some, None, inl, inr, refl, subst, arith, min}
use Rattle.std.specs.Str.{all_ascii_digits}
use Rattle.std.specs.Char.{is_ascii_digit}
use Rattle.std.proofs.lemmas.Bool.{cases_Bool, and_parts, eq-eqb}
use Rattle.std.proofs.lemmas.Bool.Decides.{nat_tests}
use Rattle.proto.specs.Line.{◌>>=◌}
use Rattle.proto.specs.Number.{number_below}
use Rattle.schedules.specs.Parts.{parted, pair_said, Joins}
use Rattle.schedules.specs.Line.{node_number}
use Rattle.schedules.proofs.OptionLemmas.{option_map_some, option_map_none, bind_some, guard_some, at_some}
use Rattle.schedules.proofs.LinesLemmas.{parted_text}

-- if the front has no separator, the text is parted behind it
pub parted_again : (s : ℕ) (front back : List ℕ) → parted s front ≡ None → parted s (front ++ s ∷ back) ≡ Some (front, back)
parted_again s [] back h = rw (eq-eqb s s refl) refl
parted_again s (b ∷ bs) back h =
    elim (cases_Bool (eqb b s)) [
      | inl same ↦ absurd (let e = rw same at h in cc)
      | inr other ↦
          let rest : parted s bs ≡ None = option_map_none (λ (p : List ℕ × List ℕ). (b ∷ p.0, p.1)) (parted s bs) (rw other at h) in
          rw (other, parted_again s bs back rest) refl
    ]

no_space : (c : ℕ) → is_ascii_digit c ≡ true → eqb c 32 ≡ false
no_space c h = grind (arith, nat_tests)

digits_whole : (digits : List ℕ) → all_ascii_digits digits ≡ true → parted 32 digits ≡ None
digits_whole [] h = refl
digits_whole (c ∷ cs) h =
    let parts = and_parts (is_ascii_digit c) (all_ascii_digits cs) h in
    rw (no_space c parts.0, digits_whole cs parts.1) refl

pub number_whole : (limit : ℕ) (digits : List ℕ) (n : ℕ) → number_below limit digits ≡ Some n → parted 32 digits ≡ None
number_whole limit digits n h = digits_whole digits (and_parts _ _ (and_parts _ _ (guard_some _ _ _ h).0).0).1

pub node_whole : (greatest : ℕ) (digits : List ℕ) (n : ℕ) → node_number greatest digits ≡ Some n → parted 32 digits ≡ None
node_whole greatest digits n h =
    let m = option_map_some (min greatest) (number_below (2 ^ 64) digits) n h in
    number_whole (2 ^ 64) digits m.0 m.1

pub pair_made : {A B : Type 0} (f : List ℕ → Option A) (g : List ℕ → Option B) (front back : List ℕ) (a : A) (b : B) → parted 32 front ≡ None → f front ≡ Some a → g back ≡ Some b → pair_said f g (front ++ 32 ∷ back) ≡ Some (a, b)
pair_made f g front back a b whole e h = rw (parted_again 32 front back whole, e, h) refl

-- two values of the parts of a text
joined : {A B : Type 0} (f : List ℕ → Option A) (g : List ℕ → Option B) (text front back : List ℕ) (a : A) (b : B) (p : A × B) → text ≡ front ++ 32 ∷ back → f front ≡ Some a → g back ≡ Some b → Some (a, b) ≡ Some p → Joins (λ t. f t ≡ Some p.0) (λ t. g t ≡ Some p.1) text
joined {A} {B} f g text front back a b p e fa gb h =
    subst (λ (q : A × B). Joins (λ t. f t ≡ Some q.0) (λ t. g t ≡ Some q.1) text) (at_some (a, b) p h) (front, back, e, fa, gb)

pub pair_parts : {A B : Type 0} (f : List ℕ → Option A) (g : List ℕ → Option B) (text : List ℕ) (p : A × B) → pair_said f g text ≡ Some p → Joins (λ t. f t ≡ Some p.0) (λ t. g t ≡ Some p.1) text
pair_parts {A} {B} f g text p h =
    let x = bind_some (parted 32 text) (λ (x : List ℕ × List ℕ). f x.0 >>= λ a. g x.1 >>= λ b. Some (a, b)) p h in
    let y = bind_some (f x.0.0) (λ (a : A). g x.0.1 >>= λ b. Some (a, b)) p x.2 in
    let z = bind_some (g x.0.1) (λ (b : B). Some (y.0, b)) p y.2 in
    joined f g text x.0.0 x.0.1 y.0 z.0 p (parted_text 32 text x.0 x.1) y.1 z.1 z.2
