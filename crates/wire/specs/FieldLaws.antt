-- Fields are prefix-free if their parts are.
use Rattle.std.proofs.Common.{◌≡◌, ℕ, List, [], ◌∷◌, ◌++◌, length, Option, Some, None, refl, sym, ◌∙◌, ap, arith, append_assoc}
use Rattle.std.specs.Prelude.{flat_map}
use Rattle.std.specs.Int.{w32}
use Rattle.std.proofs.lemmas.List.Concat.{flat_map-cons}
use Rattle.wire.specs.Record.{IsPrefixFree}
use Rattle.wire.specs.Number.{num}
use Rattle.wire.specs.Field.{option_text, list_text}
use Rattle.wire.specs.FrontLaws.{tail_of}
use Rattle.wire.specs.NumberLaws.{num_prefix_free, wide32}

module _ {X : Type 0} (encoding : X → List ℕ) (free : IsPrefixFree encoding) where
  option_apart : (v w : Option X) (r s : List ℕ) → option_text encoding v ++ r ≡ option_text encoding w ++ s → (v ≡ w) × (r ≡ s)
  option_apart None None r s e = (refl, tail_of 0 0 r s e)
  option_apart None (Some y) r s e = absurd (cc e)
  option_apart (Some x) None r s e = absurd (cc e)
  option_apart (Some x) (Some y) r s e =
      let both = free.apart x y r s (tail_of 1 1 _ _ e) in
      (ap (λ (z : X). Some z) both.0, both.1)

  pub option_prefix_free : IsPrefixFree (option_text encoding)
  option_prefix_free = record { apart = option_apart }

  -- so many values are identified
  values_apart : (xs ys : List X) (r s : List ℕ) → length xs ≡ length ys → flat_map encoding xs ++ r ≡ flat_map encoding ys ++ s → (xs ≡ ys) × (r ≡ s)
  values_apart [] [] r s l e = (refl, e)
  values_apart [] (y ∷ ys) r s l e = absurd (omega arith)
  values_apart (x ∷ xs) [] r s l e = absurd (omega arith)
  values_apart (x ∷ xs) (y ∷ ys) r s l e =
      let regroup : (z : X) (zs : List X) (t : List ℕ) → flat_map encoding (z ∷ zs) ++ t ≡ encoding z ++ (flat_map encoding zs ++ t) = λ z zs t. ap (λ (u : List ℕ). u ++ t) (flat_map-cons encoding z zs) ∙ append_assoc (encoding z) (flat_map encoding zs) t in
      let first = free.apart x y _ _ (sym (regroup x xs r) ∙ (e ∙ regroup y ys s)) in
      let others = values_apart xs ys r s (omega arith) first.1 in
      ((λ i. first.0 i ∷ others.0 i), others.1)

  list_apart : (xs ys : List X) (r s : List ℕ) → list_text encoding xs ++ r ≡ list_text encoding ys ++ s → (xs ≡ ys) × (r ≡ s)
  list_apart xs ys r s e =
      let count = (num_prefix_free w32 wide32).apart (length xs) (length ys) _ _ (sym (append_assoc (num w32 (length xs)) (flat_map encoding xs) r) ∙ (e ∙ append_assoc (num w32 (length ys)) (flat_map encoding ys) s)) in
      values_apart xs ys r s count.0 count.1

  pub list_prefix_free : IsPrefixFree (list_text encoding)
  list_prefix_free = record { apart = list_apart }

module _ {X Y : Type 0} (first : X → List ℕ) (second : Y → List ℕ) (a : IsPrefixFree first) (b : IsPrefixFree second) where
  pair_apart : (v w : X × Y) (r s : List ℕ) → (first v.0 ++ second v.1) ++ r ≡ (first w.0 ++ second w.1) ++ s → (v ≡ w) × (r ≡ s)
  pair_apart v w r s e =
      let one = a.apart v.0 w.0 _ _ (sym (append_assoc (first v.0) (second v.1) r) ∙ (e ∙ append_assoc (first w.0) (second w.1) s)) in
      let two = b.apart v.1 w.1 r s one.1 in
      ((λ i. (one.0 i, two.0 i)), two.1)

  pub pair_prefix_free : IsPrefixFree {X = X × Y} (λ p. first p.0 ++ second p.1)
  pair_prefix_free = record { apart = pair_apart }
