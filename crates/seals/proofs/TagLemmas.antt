-- The bits in which bytes differ.
use Rattle.std.proofs.Common.{◌≡◌, ℕ, ◌≤◌, bit_or, bit_xor, sym, ap, ◌∙◌, arith}
use Rattle.std.proofs.lemmas.Nat.{le_or_l, le_or_r}
use lib.Bits.{xor_assoc, xor_self, xor_zero_l, xor_zero_r}

-- numbers that differ in no bit are one
xor_none : (x y : ℕ) → bit_xor x y ≡ 0 → x ≡ y
xor_none x y e =
    sym (xor_zero_r x) ∙ (ap (bit_xor x) (sym (xor_self y)) ∙ (sym (xor_assoc x y y) ∙ (ap (λ n. bit_xor n y) e ∙ xor_zero_l y)))

pub none_differ : (bits x y : ℕ) → bit_or bits (bit_xor x y) ≡ 0 → (bits ≡ 0) × (x ≡ y)
none_differ bits x y e =
    let low : bits ≤ bit_or bits (bit_xor x y) = le_or_l bits (bit_xor x y) in
    let high : bit_xor x y ≤ bit_or bits (bit_xor x y) = le_or_r bits (bit_xor x y) in
    (omega (arith, low, e), xor_none x y (omega (arith, high, e)))

pub same_differ_none : (bits x y : ℕ) → bits ≡ 0 → x ≡ y → bit_or bits (bit_xor x y) ≡ 0
same_differ_none bits x y b e =
    ap (λ n. bit_or n (bit_xor x y)) b ∙ (ap (λ n. bit_or 0 (bit_xor n y)) e ∙ ap (bit_or 0) (xor_self y))
