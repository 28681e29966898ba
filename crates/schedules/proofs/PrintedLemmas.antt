-- What is printed of bytes.
use Rattle.std.proofs.Common.{ℕ, ◌<◌, eqb, List, [], ◌∷◌, inl, inr, refl}
use Rattle.std.specs.List.{AllByRecursion}
use Rattle.std.proofs.lemmas.Bool.{cases_Bool, eqb-true}
use Rattle.std.proofs.lemmas.List.Concat.{flat_map-cons}
use Rattle.schedules.specs.Escape.{is_plain, StandsFor, IsEscaped, printed_byte, printed_text}

printed_stands : (b : ℕ) → b < 256 → StandsFor b (printed_byte b)
printed_stands b l =
    elim (cases_Bool (is_plain b)) [
      | inl plain ↦ inl (plain, rw plain refl)
      | inr special ↦ elim (cases_Bool (eqb b 13)) [
        | inl same ↦ inr (inl (eqb-true b 13 same, rw (special, same) refl))
        | inr no_return ↦ elim (cases_Bool (eqb b 10)) [
          | inl same ↦ inr (inr (inl (eqb-true b 10 same, rw (special, no_return, same) refl)))
          | inr no_newline ↦ elim (cases_Bool (eqb b 92)) [
            | inl same ↦ inr (inr (inr (inl (eqb-true b 92 same, rw (special, no_return, no_newline, same) refl))))
            | inr other ↦ inr (inr (inr (inr (l, rw (special, no_return, no_newline, other) refl))))
          ]
        ]
      ]
    ]

pub printed_is_read : (bytes : List ℕ) → AllByRecursion (λ b. b < 256) bytes → IsEscaped bytes (printed_text bytes)
printed_is_read [] h = refl
printed_is_read (b ∷ bs) h = (printed_byte b, printed_text bs, flat_map-cons printed_byte b bs, printed_stands b h.0, printed_is_read bs h.1)
