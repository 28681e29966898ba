-- No data is encoded at the front of other data.
use Rattle.std.proofs.Common.{◌≡◌, ℕ, ◌<◌, ◌≤◌, Bool, true, List, ◌∷◌, ◌++◌, length, get_or, refl, sym, ◌∙◌, ap, arith, append_assoc, inl, inr}
use Rattle.std.specs.Prelude.{nat_le}
use Rattle.std.specs.Int.{w32}
use Rattle.std.proofs.lemmas.Bool.{cases_Bool, leb-true, le-leb}
use Rattle.proto.specs.declared.block.TheConstants.{MOST_BLOCK_BYTES}
use Rattle.wire.specs.Record.{IsPrefixFree}
use Rattle.wire.specs.Number.{only_if, num}
use Rattle.wire.specs.Block.{block_text}
use Rattle.wire.specs.FrontLaws.{split_at, tail_of, head_of, both_ways, has, lacks}
use Rattle.wire.specs.NumberLaws.{num_prefix_free, num-is, wide32}

block_head : (text rest : List ℕ) → nat_le (length text) MOST_BLOCK_BYTES ≡ true → head_of ((num w32 (length text) ++ text) ++ rest) < 256
block_head text rest h =
    let few = leb-true (length text) MOST_BLOCK_BYTES h in
    rw (num-is w32 (length text) (omega (arith, few))) (omega arith)

block_apart : (x y r s : List ℕ) → block_text x ++ r ≡ block_text y ++ s → (x ≡ y) × (r ≡ s)
unfolding block_text
block_apart x y r s e =
    elim (both_ways (nat_le (length x) MOST_BLOCK_BYTES) (nat_le (length y) MOST_BLOCK_BYTES) (num w32 (length x) ++ x) (num w32 (length y) ++ y) (length x ∷ x) (length y ∷ y) r s (block_head x r) (block_head y s) e) [
      | has a b same ↦
          let len = (num_prefix_free w32 wide32).apart (length x) (length y) (x ++ r) (y ++ s) (sym (append_assoc (num w32 (length x)) x r) ∙ (same ∙ append_assoc (num w32 (length y)) y s)) in
          split_at x y r s len.0 len.1
      | lacks a b same ↦
          split_at x y r s (ap head_of same) (tail_of _ _ _ _ same)
    ]

pub block_prefix_free : IsPrefixFree block_text
block_prefix_free = record { apart = block_apart }

-- the length of some text, within the limit, and the text are at the front of bytes
pub block_at_front : (text bytes rest : List ℕ) → ((i : ℕ) → get_or bytes i 0 < 256) → bytes ≡ block_text text ++ rest
    → (length text ≤ MOST_BLOCK_BYTES) × (bytes ≡ num w32 (length text) ++ (text ++ rest))
unfolding block_text
block_at_front text bytes rest are_bytes e =
    elim (cases_Bool (nat_le (length text) MOST_BLOCK_BYTES)) [
      | inl within ↦ (leb-true _ _ within, e ∙ (ap (λ (b : Bool). only_if b (num w32 (length text) ++ text) (length text ∷ text) ++ rest) within ∙ append_assoc (num w32 (length text)) text rest))
      | inr not ↦
          let same : bytes ≡ 256 ∷ ((length text ∷ text) ++ rest) = e ∙ ap (λ (b : Bool). only_if b (num w32 (length text) ++ text) (length text ∷ text) ++ rest) not in
          let head : get_or bytes 0 0 ≡ 256 = ap (λ (x : List ℕ). get_or x 0 0) same in
          absurd (omega (arith, are_bytes 0))
    ]

pub block_text-is : (text : List ℕ) → length text ≤ MOST_BLOCK_BYTES → block_text text ≡ num w32 (length text) ++ text
unfolding block_text
block_text-is text few = rw (le-leb _ _ few) refl
