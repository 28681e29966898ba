-- No list of allowed values is a prefix of another.
use Rattle.std.proofs.Common.{◌≡◌, ℕ, ◌<◌, ◌≤◌, Bool, true, List, ◌∷◌, ◌++◌, length, get_or, refl, ◌∙◌, ap, arith, inl, inr}
use Rattle.std.specs.Int.{w32}
use Rattle.std.proofs.lemmas.Bool.{cases_Bool}
use Rattle.proto.specs.declared.key.TheConstants.{MOST_KEYS}
use Rattle.wire.specs.Record.{IsPrefixFree}
use Rattle.wire.specs.Number.{only_if}
use Rattle.wire.specs.Field.{list_text, limited_text}
use Rattle.wire.specs.FrontLaws.{head_of, both_ways, has, lacks}
use Rattle.wire.specs.NumberLaws.{num-is}
use Rattle.wire.specs.FieldLaws.{list_prefix_free}

module _ {X : Type 0} (may : List X → Bool) (few : (xs : List X) → may xs ≡ true → length xs ≤ MOST_KEYS) (encoding : X → List ℕ) (free : IsPrefixFree encoding) where
  limited_head : (xs : List X) (rest : List ℕ) → may xs ≡ true → head_of (list_text encoding xs ++ rest) < 256
  limited_head xs rest h =
      let short = few xs h in
      rw (num-is w32 (length xs) (omega (arith, short))) (omega arith)

  limited_apart : (xs ys : List X) (r s : List ℕ) → limited_text may encoding xs ++ r ≡ limited_text may encoding ys ++ s → (xs ≡ ys) × (r ≡ s)
  limited_apart xs ys r s e =
      elim (both_ways (may xs) (may ys) (list_text encoding xs) (list_text encoding ys) (list_text encoding xs) (list_text encoding ys) r s (limited_head xs r) (limited_head ys s) e) [
        | has a b same ↦ (list_prefix_free encoding free).apart xs ys r s same
        | lacks a b same ↦ (list_prefix_free encoding free).apart xs ys r s same
      ]

  pub limited_prefix_free : IsPrefixFree (limited_text may encoding)
  limited_prefix_free = record { apart = limited_apart }

-- an allowed list is at the front of bytes
pub limited_at_front : {X : Type 0} (may : List X → Bool) (encoding : X → List ℕ) (xs : List X) (bytes rest : List ℕ) → ((i : ℕ) → get_or bytes i 0 < 256)
    → bytes ≡ limited_text may encoding xs ++ rest → (may xs ≡ true) × (bytes ≡ list_text encoding xs ++ rest)
limited_at_front may encoding xs bytes rest are_bytes e =
    elim (cases_Bool (may xs)) [
      | inl valid ↦ (valid, e ∙ ap (λ (b : Bool). only_if b (list_text encoding xs) (list_text encoding xs) ++ rest) valid)
      | inr not ↦
          let same : bytes ≡ 256 ∷ (list_text encoding xs ++ rest) = e ∙ ap (λ (b : Bool). only_if b (list_text encoding xs) (list_text encoding xs) ++ rest) not in
          let head : get_or bytes 0 0 ≡ 256 = ap (λ (x : List ℕ). get_or x 0 0) same in
          absurd (omega (arith, are_bytes 0))
    ]

pub limited-is : {X : Type 0} (may : List X → Bool) (encoding : X → List ℕ) (xs : List X) → may xs ≡ true → limited_text may encoding xs ≡ list_text encoding xs
limited-is may encoding xs h = rw h refl
