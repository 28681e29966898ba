-- What an escaped text stands for.
use Rattle.std.proofs.Common.{◌≡◌, ℕ, ◌+◌, ◌*◌, ◌/◌, ◌%◌, ◌<◌, true, cond, eqb, List, [], ◌∷◌, ◌++◌, Option, Some, None, inl, inr, refl, sym, ap, subst, ◌∙◌, append_assoc, arith}
use Rattle.std.specs.Option.{option_map}
use Rattle.std.proofs.lemmas.Bool.{eqb-true}
use Rattle.proto.specs.Line.{◌>>=◌}
use Rattle.std.proofs.lemmas.Bool.Decides.{nat_tests}
use Rattle.schedules.specs.declared.escape.Escape.{Escape}
use Rattle.schedules.specs.declared.escape.Escape.TheVariants.{Whole, Backslash, Hex, HighDigit}
use Rattle.schedules.specs.Escape.{is_plain, hex_digit, hex_value, StandsFor, IsEscaped, IsEscape, escape_step, with_byte, unescaped_from, unescaped}
use Rattle.schedules.proofs.OptionLemmas.{option_map_some, bind_some, chosen, at_some}

-- what was read before, and what is still read
abbrev pub with_front : List ℕ → Option (List ℕ) → Option (List ℕ)
with_front front read = option_map (λ bs. front ++ bs) read

-- ---- digits

value_of_digit : (n : ℕ) → n < 16 → hex_value (hex_digit n) ≡ Some n
value_of_digit n l = grind (arith, nat_tests)

digit_of_value : (b n : ℕ) → hex_value b ≡ Some n → (n < 16) × (b ≡ hex_digit n)
digit_of_value b n e = (grind (arith, nat_tests), grind (arith, nat_tests))

-- ---- what a text stands for is read from it

no_byte : (o : Option (List ℕ)) → option_map (with_byte None) o ≡ o
no_byte None = refl
no_byte (Some bs) = refl

hex_read : (b : ℕ) (rest : List ℕ) → b < 256 → unescaped (92 ∷ 120 ∷ hex_digit (b / 16) ∷ hex_digit (b % 16) ∷ rest) ≡ option_map (λ bs. b ∷ bs) (unescaped rest)
hex_read b rest l =
    let whole : (b / 16) * 16 + b % 16 ≡ b = omega arith in
    rw (value_of_digit (b / 16) (omega arith), value_of_digit (b % 16) (omega arith), whole)
    (no_byte _ ∙ no_byte _ ∙ no_byte _)

byte_read : (b : ℕ) (front rest : List ℕ) → StandsFor b front → unescaped (front ++ rest) ≡ option_map (λ bs. b ∷ bs) (unescaped rest)
byte_read b front rest (inl h) = rw (h.1, h.0) refl
byte_read b front rest (inr (inl h)) = rw (h.1, h.0) (no_byte _)
byte_read b front rest (inr (inr (inl h))) = rw (h.1, h.0) (no_byte _)
byte_read b front rest (inr (inr (inr (inl h)))) = rw (h.1, h.0) (no_byte _)
byte_read b front rest (inr (inr (inr (inr h)))) = rw h.1 (hex_read b rest h.0)

pub escaped_read : (bs text : List ℕ) → IsEscaped bs text → unescaped text ≡ Some bs
escaped_read [] text h = rw h refl
escaped_read (b ∷ bs) text (front, rest, e, stands, others) =
    ap unescaped e ∙ byte_read b front rest stands ∙ ap (option_map (λ (xs : List ℕ). b ∷ xs)) (escaped_read bs rest others)

-- ---- what is read from a text is what it stands for

-- the bytes of an escape so far
abbrev begun : Escape → List ℕ
begun Whole = []
begun Backslash = 92 ∷ []
begun Hex = 92 ∷ 120 ∷ []
begun (HighDigit n) = 92 ∷ 120 ∷ hex_digit n ∷ []

-- it goes on, or is whole and stands for a byte
abbrev Moves : Escape → ℕ → Escape → Option ℕ → Type 0
Moves e b next None = begun e ++ b ∷ [] ≡ begun next
Moves e b next (Some byte) = (next ≡ Whole) × StandsFor byte (begun e ++ b ∷ [])

abbrev IsStep : Escape → ℕ → Escape × Option ℕ → Type 0
IsStep e b s = IsEscape s.0 × Moves e b s.0 s.1

step_whole : (b : ℕ) (s : Escape × Option ℕ) → escape_step Whole b ≡ Some s → IsStep Whole b s
step_whole b s h =
    elim (chosen (is_plain b) (Some (Whole, Some b)) (cond (eqb b 92) (Some (Backslash, None)) None) (Some s) h) [
      | inl p ↦ subst (IsStep Whole b) (at_some (Whole, Some b) s p.1) (tt, (refl, inl (p.0, refl)))
      | inr p ↦ elim (chosen (eqb b 92) (Some (Backslash, None)) None (Some s) p.1) [
        | inl q ↦ subst (IsStep Whole b) (at_some (Backslash, None) s q.1) (tt, ap (λ (x : ℕ). x ∷ []) (eqb-true b 92 q.0))
        | inr q ↦ absurd (cc)
      ]
    ]

abbrev not_itself : ℕ → Option (Escape × Option ℕ)
not_itself b = cond (eqb b 120) (Some (Hex, None)) None

abbrev not_newline : ℕ → Option (Escape × Option ℕ)
not_newline b = cond (eqb b 92) (Some (Whole, Some 92)) (not_itself b)

abbrev not_return : ℕ → Option (Escape × Option ℕ)
not_return b = cond (eqb b 110) (Some (Whole, Some 10)) (not_newline b)

step_backslash : (b : ℕ) (s : Escape × Option ℕ) → escape_step Backslash b ≡ Some s → IsStep Backslash b s
step_backslash b s h =
    let told : (c : ℕ) → eqb b c ≡ true → 92 ∷ b ∷ [] ≡ 92 ∷ c ∷ [] = λ c e. ap (λ (x : ℕ). 92 ∷ x ∷ []) (eqb-true b c e) in
    elim (chosen (eqb b 114) (Some (Whole, Some 13)) (not_return b) (Some s) h) [
      | inl q ↦ subst (IsStep Backslash b) (at_some (Whole, Some 13) s q.1) (tt, (refl, inr (inl (refl, told 114 q.0))))
      | inr p ↦ elim (chosen (eqb b 110) (Some (Whole, Some 10)) (not_newline b) (Some s) p.1) [
        | inl q ↦ subst (IsStep Backslash b) (at_some (Whole, Some 10) s q.1) (tt, (refl, inr (inr (inl (refl, told 110 q.0)))))
        | inr p ↦ elim (chosen (eqb b 92) (Some (Whole, Some 92)) (not_itself b) (Some s) p.1) [
          | inl q ↦ subst (IsStep Backslash b) (at_some (Whole, Some 92) s q.1) (tt, (refl, inr (inr (inr (inl (refl, told 92 q.0))))))
          | inr p ↦ elim (chosen (eqb b 120) (Some (Hex, None)) None (Some s) p.1) [
            | inl q ↦ subst (IsStep Backslash b) (at_some (Hex, None) s q.1) (tt, told 120 q.0)
            | inr q ↦ absurd (cc)
          ]
        ]
      ]
    ]

step_hex : (b : ℕ) (s : Escape × Option ℕ) → escape_step Hex b ≡ Some s → IsStep Hex b s
step_hex b s h =
    let n = bind_some (hex_value b) (λ (n : ℕ). Some (HighDigit n, None)) s h in
    let digit = digit_of_value b n.0 n.1 in
    subst (IsStep Hex b) (at_some (HighDigit n.0, None) s n.2) (digit.0, ap (λ (x : ℕ). 92 ∷ 120 ∷ x ∷ []) digit.1)

high_stands : (high n b : ℕ) → high < 16 → n < 16 → b ≡ hex_digit n → StandsFor (high * 16 + n) (92 ∷ 120 ∷ hex_digit high ∷ b ∷ [])
high_stands high n b l m e =
    let first : (high * 16 + n) / 16 ≡ high = omega arith in
    let second : (high * 16 + n) % 16 ≡ n = omega arith in
    inr (inr (inr (inr (omega arith, rw (first, second, e) refl))))

step_high : (high b : ℕ) (s : Escape × Option ℕ) → high < 16 → escape_step (HighDigit high) b ≡ Some s → IsStep (HighDigit high) b s
step_high high b s l h =
    let n = bind_some (hex_value b) (λ (n : ℕ). Some (Whole, Some (high * 16 + n))) s h in
    let digit = digit_of_value b n.0 n.1 in
    subst (IsStep (HighDigit high) b) (at_some (Whole, Some (high * 16 + n.0)) s n.2) (tt, (refl, high_stands high n.0 b l digit.0 digit.1))

step_is : (e : Escape) (b : ℕ) (s : Escape × Option ℕ) → IsEscape e → escape_step e b ≡ Some s → IsStep e b s
step_is Whole b s ok h = step_whole b s h
step_is Backslash b s ok h = step_backslash b s h
step_is Hex b s ok h = step_hex b s h
step_is (HighDigit n) b s ok h = step_high n b s ok h

-- one byte of the text more in front
onto : (e : Escape) (b : ℕ) (text : List ℕ) (next : Escape) (whole : Option ℕ) (bs : List ℕ) → Moves e b next whole → IsEscaped bs (begun next ++ text) → IsEscaped (with_byte whole bs) (begun e ++ b ∷ text)
onto e b text next None bs moves h = subst (IsEscaped bs) (ap (λ (front : List ℕ). front ++ text) (sym moves) ∙ append_assoc (begun e) (b ∷ []) text) h
onto e b text next (Some byte) bs moves h =
    (begun e ++ b ∷ [], text, sym (append_assoc (begun e) (b ∷ []) text), moves.1, subst (λ (x : Escape). IsEscaped bs (begun x ++ text)) moves.0 h)

abbrev Reads : Escape → ℕ → List ℕ → List ℕ → Type 0
Reads e b text bs = (escape_step e b >>= λ s. option_map (with_byte s.1) (unescaped_from s.0 text)) ≡ Some bs

read_more : (e : Escape) (b : ℕ) (text bs : List ℕ) → ((s : Escape) (t : List ℕ) → IsEscape s → unescaped_from s text ≡ Some t → IsEscaped t (begun s ++ text)) → IsEscape e → Reads e b text bs → IsEscaped bs (begun e ++ b ∷ text)
read_more e b text bs rest ok h =
    let s = bind_some (escape_step e b) (λ (s : Escape × Option ℕ). option_map (with_byte s.1) (unescaped_from s.0 text)) bs h in
    let t = option_map_some (with_byte s.0.1) (unescaped_from s.0.0 text) bs s.2 in
    let step = step_is e b s.0 ok s.1 in
    subst (λ (x : List ℕ). IsEscaped x (begun e ++ b ∷ text)) t.2 (onto e b text s.0.0 s.0.1 t.0 step.1 (rest s.0.0 t.0 step.0 t.1))

read_escaped_from : (e : Escape) (text bs : List ℕ) → IsEscape e → unescaped_from e text ≡ Some bs → IsEscaped bs (begun e ++ text)
read_escaped_from Whole [] bs ok h = subst (λ (x : List ℕ). IsEscaped x []) (at_some [] bs h) refl
read_escaped_from Backslash [] bs ok h = absurd (cc)
read_escaped_from Hex [] bs ok h = absurd (cc)
read_escaped_from (HighDigit n) [] bs ok h = absurd (cc)
read_escaped_from Whole (b ∷ text) bs ok h = read_more Whole b text bs (λ s t o e. read_escaped_from s text t o e) ok h
read_escaped_from Backslash (b ∷ text) bs ok h = read_more Backslash b text bs (λ s t o e. read_escaped_from s text t o e) ok h
read_escaped_from Hex (b ∷ text) bs ok h = read_more Hex b text bs (λ s t o e. read_escaped_from s text t o e) ok h
read_escaped_from (HighDigit n) (b ∷ text) bs ok h = read_more (HighDigit n) b text bs (λ s t o e. read_escaped_from s text t o e) ok h

pub read_escaped : (bs text : List ℕ) → unescaped text ≡ Some bs → IsEscaped bs text
read_escaped bs text h = read_escaped_from Whole text bs tt h
