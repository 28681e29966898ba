-- Texts, parted at a byte.
use Rattle.std.proofs.Common.{◌≡◌, ℕ, zero, suc, ◌<◌, Bool, true, false, List, [], ◌∷◌, length, take, drop, get_or, Some, None, refl, arith}
use Rattle.memchr.specs.Find.{is_byte}
use Rattle.schedules.specs.Parts.{parted}

not_true : (b : Bool) → ¬ (b ≡ true) → b ≡ false
not_true true h = absurd (h refl)
not_true false h = refl

-- no byte is the separator
pub parted_none : (s : ℕ) (text : List ℕ) → ((k : ℕ) → k < length text → ¬ (is_byte s (get_or text k 0) ≡ true)) → None ≡ parted s text
parted_none s [] h = refl
parted_none s (b ∷ bs) h = rw (not_true _ (h 0 (omega arith)), ← parted_none s bs (λ k l. h (suc k) (omega arith))) refl

-- the first separator is at this place
pub parted_at : (s : ℕ) (text : List ℕ) (at : ℕ) → at < length text → ((k : ℕ) → k < at → ¬ (is_byte s (get_or text k 0) ≡ true)) → is_byte s (get_or text at 0) ≡ true → Some (take at text, drop (suc at) text) ≡ parted s text
parted_at s [] at l h e = absurd (omega arith)
parted_at s (b ∷ bs) zero l h e = rw e refl
parted_at s (b ∷ bs) (suc at) l h e = rw (not_true _ (h 0 (omega arith)), ← parted_at s bs at (omega arith) (λ k l. h (suc k) (omega arith)) e) refl

pub drop_one_more : (text : List ℕ) (at : ℕ) → drop 1 (drop at text) ≡ drop (suc at) text
drop_one_more [] zero = refl
drop_one_more [] (suc at) = refl
drop_one_more (b ∷ bs) zero = refl
drop_one_more (b ∷ bs) (suc at) = drop_one_more bs at
