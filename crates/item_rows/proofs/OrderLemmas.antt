-- The entries of a tree are in the order of the numbers that the first bits of their paths make.
use Rattle.std.proofs.Common.{◌≡◌, ℕ, zero, suc, ◌+◌, ◌*◌, ◌<◌, ◌≤◌, Bool, true, false, cond, not, List, [], ◌∷◌, ◌++◌, refl, sym, ap, subst, arith}
use Rattle.merkle.specs.Shape.{pairs, AllOn}
use Rattle.merkle.specs.Digest.{on_side, tree_of}
use Rattle.merkle.proofs.LawLemmas.{pairs_over, pairs_chain}
use Rattle.item_rows.specs.Rising.{AllFrom, AreRising}

-- the number that so many bits make behind another number, the highest first
abbrev pub bits_behind : {K : Type 0} → (K → ℕ → Bool) → (count from : ℕ) → ℕ → K → ℕ
bits_behind bit zero from high k = high
bits_behind bit (suc n) from high k = bits_behind bit n (suc from) (2 * high + cond (bit k from) 1 0) k

module _ {K V : Type 0} (f : K → ℕ) where
  from_append : (low : ℕ) (xs ys : List (K × V)) → AllFrom f low xs → AllFrom f low ys → AllFrom f low (xs ++ ys)
  from_append low [] ys p q = q
  from_append low (x ∷ xs) ys p q = (p.0, from_append low xs ys p.1 q)

  from_filter : (low : ℕ) (test : K → Bool) (es : List (K × V)) → AllFrom f low es → AllFrom f low (on_side test es)
  from_filter low test [] a = tt
  from_filter low test (e ∷ es) a =
      elim (test e.0) as (λ b. AllFrom f low (cond b (e ∷ on_side test es) (on_side test es))) [ true ↦ (a.0, from_filter low test es a.1) | false ↦ from_filter low test es a.1 ]

  -- what passes a test rises as all did
  pub rising_filter : (test : K → Bool) (es : List (K × V)) → AreRising f es → AreRising f (on_side test es)
  rising_filter test [] r = tt
  rising_filter test (e ∷ es) r =
      elim (test e.0) as (λ b. AreRising f (cond b (e ∷ on_side test es) (on_side test es))) [ true ↦ (from_filter (f e.0) test es r.0, rising_filter test es r.1) | false ↦ rising_filter test es r.1 ]

  module _ (test : K → Bool) where
    from_other : (j : K) → test j ≡ false → ((i k : K) → test i ≡ false → test k ≡ true → f i ≤ f k) → (ys : List (K × V)) → AllOn test true ys → AllFrom f (f j) ys
    from_other j is over [] all = tt
    from_other j is over (y ∷ ys) all = (over j y.0 is all.0, from_other j is over ys all.1)

    -- keys of one side, and then those of the other one
    rising_sides : ((i k : K) → test i ≡ false → test k ≡ true → f i ≤ f k) → (xs ys : List (K × V)) → AllOn test false xs → AllOn test true ys → AreRising f xs → AreRising f ys → AreRising f (xs ++ ys)
    rising_sides over [] ys p q r s = s
    rising_sides over (x ∷ xs) ys p q r s = (from_append (f x.0) xs ys r.0 (from_other x.0 p.0 over ys q), rising_sides over xs ys p.1 q r.1 s)

module _ {K V : Type 0} (f g : K → ℕ) (test : K → Bool) (side : Bool) (same : (k : K) → test k ≡ side → f k ≡ g k) where
  agree_from : (low : ℕ) (es : List (K × V)) → AllOn test side es → AllFrom g low es → AllFrom f low es
  agree_from low [] all a = tt
  agree_from low (e ∷ es) all a = (subst (λ n. low ≤ n) (sym (same e.0 all.0)) a.0, agree_from low es all.1 a.1)

  -- numbers that agree rise alike
  agree_rising : (es : List (K × V)) → AllOn test side es → AreRising g es → AreRising f es
  agree_rising [] all r = tt
  agree_rising (e ∷ es) all r = (subst (λ n. AllFrom f n es) (sym (same e.0 all.0)) (agree_from (g e.0) es all.1 r.0), agree_rising es all.1 r.1)

double : (a b : ℕ) (c d : Bool) → a < b → 2 * a + cond c 1 0 < 2 * b + cond d 1 0
double a b true true h = omega arith
double a b true false h = omega arith
double a b false true h = omega arith
double a b false false h = omega arith

apart : (a : ℕ) (c d : Bool) → c ≡ false → d ≡ true → 2 * a + cond c 1 0 < 2 * a + cond d 1 0
apart a true d p q = absurd (cc p)
apart a false true p q = omega arith
apart a false false p q = absurd (cc q)

halved : (a b : ℕ) (c d : Bool) → 2 * a + cond c 1 0 ≡ 2 * b + cond d 1 0 → (a ≡ b) × (c ≡ d)
halved a b true true h = (omega arith, refl)
halved a b true false h = absurd (omega arith)
halved a b false true h = absurd (omega arith)
halved a b false false h = (omega arith, refl)

module _ {K : Type 0} (bit : K → ℕ → Bool) where
  above : (n from a b : ℕ) (j k : K) → a < b → bits_behind bit n from a j < bits_behind bit n from b k
  above zero from a b j k h = h
  above (suc n) from a b j k h = above n (suc from) (2 * a + cond (bit j from) 1 0) (2 * b + cond (bit k from) 1 0) j k (double a b (bit j from) (bit k from) h)

  from_here : (n from : ℕ) (j k : K) → bit j from ≡ bit k from → ((i : ℕ) → i < n → bit j (i + suc from) ≡ bit k (i + suc from)) → (i : ℕ) → i < suc n → bit j (i + from) ≡ bit k (i + from)
  from_here n from j k first rest zero l = (let e : from ≡ 0 + from = omega arith in subst (λ m. bit j m ≡ bit k m) e first)
  from_here n from j k first rest (suc i) l = (let e : i + suc from ≡ suc i + from = omega arith in subst (λ m. bit j m ≡ bit k m) e (rest i (omega arith)))

  -- keys of one number have the same bits
  pub same_bits : (n from a b : ℕ) (j k : K) → bits_behind bit n from a j ≡ bits_behind bit n from b k → (a ≡ b) × ((i : ℕ) → i < n → bit j (i + from) ≡ bit k (i + from))
  same_bits zero from a b j k h = (h, λ i l. absurd (omega arith))
  same_bits (suc n) from a b j k h =
      let below = same_bits n (suc from) (2 * a + cond (bit j from) 1 0) (2 * b + cond (bit k from) 1 0) j k h in
      let first = halved a b (bit j from) (bit k from) below.0 in
      (first.0, from_here n from j k first.1 below.1)

  on_one : (n depth a : ℕ) (side : Bool) (k : K) → bit k depth ≡ side → bits_behind bit (suc n) depth a k ≡ bits_behind bit n (suc depth) (2 * a + cond side 1 0) k
  on_one n depth a side k is = ap (λ b. bits_behind bit n (suc depth) (2 * a + cond b 1 0) k) is

  over : (n depth a : ℕ) (i k : K) → bit i depth ≡ false → bit k depth ≡ true → bits_behind bit (suc n) depth a i ≤ bits_behind bit (suc n) depth a k
  over n depth a i k p q =
      let strict = above n (suc depth) (2 * a + cond (bit i depth) 1 0) (2 * a + cond (bit k depth) 1 0) i k (apart a (bit i depth) (bit k depth) p q) in
      omega (arith, strict)

module _ {K V : Type 0} (test : K → Bool) (side : Bool) where
  all_append : (xs ys : List (K × V)) → AllOn test side xs → AllOn test side ys → AllOn test side (xs ++ ys)
  all_append [] ys p q = q
  all_append (x ∷ xs) ys p q = (p.0, all_append xs ys p.1 q)

  all_filter : (passes : K → Bool) (es : List (K × V)) → AllOn test side es → AllOn test side (on_side passes es)
  all_filter passes [] a = tt
  all_filter passes (e ∷ es) a =
      elim (passes e.0) as (λ b. AllOn test side (cond b (e ∷ on_side passes es) (on_side passes es))) [ true ↦ (a.0, all_filter passes es a.1) | false ↦ all_filter passes es a.1 ]

all_passed : {K V : Type 0} (test : K → Bool) (es : List (K × V)) → AllOn test true (on_side test es)
all_passed test [] = tt
all_passed test (e ∷ es) =
    elim (test e.0) as (λ b. test e.0 ≡ b → AllOn test true (cond b (e ∷ on_side test es) (on_side test es))) [ true ↦ λ is. (is, all_passed test es) | false ↦ λ is. all_passed test es ] refl

all_failed : {K V : Type 0} (test : K → Bool) (es : List (K × V)) → AllOn test false (on_side (λ k. not (test k)) es)
all_failed test [] = tt
all_failed test (e ∷ es) =
    elim (test e.0) as (λ b. test e.0 ≡ b → AllOn test false (cond (not b) (e ∷ on_side (λ k. not (test k)) es) (on_side (λ k. not (test k)) es))) [ true ↦ λ is. all_failed test es | false ↦ λ is. (is, all_failed test es) ] refl

module _ {K V : Type 0} (bit : K → ℕ → Bool) where
  -- what holds of the keys holds of those in the tree
  all_tree : (test : K → Bool) (side : Bool) (left depth : ℕ) (es : List (K × V)) → AllOn test side es → AllOn test side (pairs (tree_of bit left depth es))
  all_tree test side left depth [] a = tt
  all_tree test side left depth (e ∷ []) a = a
  all_tree test side zero depth (e ∷ f ∷ es) a = subst (AllOn test side) (sym (pairs_chain (e ∷ f ∷ es))) a
  all_tree test side (suc left) depth (e ∷ f ∷ es) a =
      let low = on_side (λ k. not (bit k depth)) (e ∷ f ∷ es) in
      let high = on_side (λ k. bit k depth) (e ∷ f ∷ es) in
      subst (AllOn test side) (sym (pairs_over (tree_of bit left (suc depth) low) (tree_of bit left (suc depth) high)))
      (all_append test side (pairs (tree_of bit left (suc depth) low)) (pairs (tree_of bit left (suc depth) high))
      (all_tree test side left (suc depth) low (all_filter test side (λ k. not (bit k depth)) (e ∷ f ∷ es) a)) (all_tree test side left (suc depth) high (all_filter test side (λ k. bit k depth) (e ∷ f ∷ es) a)))

  flat_from : (from a : ℕ) (es : List (K × V)) → AllFrom (bits_behind bit 0 from a) a es
  flat_from from a [] = tt
  flat_from from a (e ∷ es) = (omega arith, flat_from from a es)

  flat : (from a : ℕ) (es : List (K × V)) → AreRising (bits_behind bit 0 from a) es
  flat from a [] = tt
  flat from a (e ∷ es) = (flat_from from a es, flat from a es)

  -- the entries of a tree rise
  pub rises : (n left depth a : ℕ) (es : List (K × V)) → n ≤ left → AreRising (bits_behind bit n depth a) (pairs (tree_of bit left depth es))
  rises zero left depth a es h = flat depth a (pairs (tree_of bit left depth es))
  rises (suc n) zero depth a es h = absurd (omega arith)
  rises (suc n) (suc left) depth a [] h = tt
  rises (suc n) (suc left) depth a (e ∷ []) h = (tt, tt)
  rises (suc n) (suc left) depth a (e ∷ f ∷ es) h =
      let test : K → Bool = λ k. bit k depth in
      let low = on_side (λ k. not (bit k depth)) (e ∷ f ∷ es) in
      let high = on_side (λ k. bit k depth) (e ∷ f ∷ es) in
      let l = pairs (tree_of bit left (suc depth) low) in
      let r = pairs (tree_of bit left (suc depth) high) in
      let lows = all_tree test false left (suc depth) low (all_failed test (e ∷ f ∷ es)) in
      let highs = all_tree test true left (suc depth) high (all_passed test (e ∷ f ∷ es)) in
      subst (AreRising (bits_behind bit (suc n) depth a)) (sym (pairs_over (tree_of bit left (suc depth) low) (tree_of bit left (suc depth) high)))
      (rising_sides (bits_behind bit (suc n) depth a) test (over bit n depth a) l r lows highs
      (agree_rising (bits_behind bit (suc n) depth a) (bits_behind bit n (suc depth) (2 * a + 0)) test false (on_one bit n depth a false) l lows (rises n left (suc depth) (2 * a + 0) low (omega arith)))
      (agree_rising (bits_behind bit (suc n) depth a) (bits_behind bit n (suc depth) (2 * a + 1)) test true (on_one bit n depth a true) r highs (rises n left (suc depth) (2 * a + 1) high (omega arith))))
