-- What it is to remove a key.
use Rattle.std.specs.Prelude.{◌≡◌, ℕ, ◌+◌, ◌<◌, suc, Bool, true, false, cond, List, ◌++◌, length, None, is_some}
use Rattle.std.specs.declared.cmp.Ordering.{Ordering}
use Rattle.std.specs.Ordering.{eq_by_cmp}
use Rattle.std.specs.FinMap.{find}
use Rattle.merkle.specs.Shape.{Shape, none, one, fork, pairs, AllOn, IsTrie}

-- Nothing is at the key, and all else is as it was. No key comes.
pub record IsRemoved {K V : Type 0} (R : K → K → Ordering) (k : K) (old new : List (K × V)) : Type 0 where
  pub found : (q : K) → find R q new ≡ cond (eq_by_cmp R q k) None (find R q old)
  pub sides : (test : K → Bool) (side : Bool) → AllOn test side old → AllOn test side new
  pub count : length old ≡ cond (is_some (find R k old)) (length new + 1) (length new)

-- the same of a tree at this depth
pub record IsRemovedFrom {K V : Type 0} (R : K → K → Ordering) (bit : K → ℕ → Bool) (bits depth : ℕ) (k : K) (old new : Shape K V) : Type 0 where
  pub removed : IsRemoved R k (pairs old) (pairs new)
  pub trie : IsTrie bit bits depth new

-- the same of a fork, over which less than two keys may be left
pub record IsThinned {K V : Type 0} (R : K → K → Ordering) (bit : K → ℕ → Bool) (bits depth : ℕ) (k : K) (old left right : Shape K V) : Type 0 where
  pub removed : IsRemoved R k (pairs old) (pairs left ++ pairs right)
  pub within : depth < bits
  pub lefts : AllOn (λ k. bit k depth) false (pairs left)
  pub rights : AllOn (λ k. bit k depth) true (pairs right)
  pub left_trie : IsTrie bit bits (suc depth) left
  pub right_trie : IsTrie bit bits (suc depth) right

-- no key, one key, or a fork
abbrev pub kind : {K V : Type 0} → Shape K V → ℕ
kind none = 0
kind (one k v) = 1
kind (fork l r) = 2

-- whether the key ties with the one leaf that there is
abbrev pub ties_alone : {K V : Type 0} → (K → K → Ordering) → K → Shape K V → Bool
ties_alone R k none = false
ties_alone R k (one j v) = eq_by_cmp R k j
ties_alone R k (fork l r) = false
