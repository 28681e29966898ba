-- What it is to put a value at a key.
use Rattle.std.specs.Prelude.{◌<◌, ◌≡◌, ℕ, ◌+◌, Bool, cond, List, length, Some, is_some}
use Rattle.std.specs.declared.cmp.Ordering.{Ordering}
use Rattle.std.specs.Ordering.{eq_by_cmp}
use Rattle.std.specs.FinMap.{find}
use Rattle.merkle.specs.Shape.{Shape, pairs, AllOn, IsTrie}

-- the paths of these keys begin with that of this one, so far
pub record IsPrefixed {K V : Type 0} (bit : K → ℕ → Bool) (k : K) (depth : ℕ) (es : List (K × V)) : Type 0 where
  pub each : (i : ℕ) → i < depth → AllOn (λ x. bit x i) (bit k i) es

-- The value is at the key, and all else is as it was. No key comes but this one, and none goes.
pub record IsPut {K V : Type 0} (R : K → K → Ordering) (k : K) (v : V) (old new : List (K × V)) : Type 0 where
  pub found : (q : K) → find R q new ≡ cond (eq_by_cmp R q k) (Some v) (find R q old)
  pub sides : (test : K → Bool) (side : Bool) → AllOn test side old → test k ≡ side → AllOn test side new
  pub count : length new ≡ cond (is_some (find R k old)) (length old) (length old + 1)

-- the same of a tree at this depth
pub record IsPutInto {K V : Type 0} (R : K → K → Ordering) (bit : K → ℕ → Bool) (bits depth : ℕ) (k : K) (v : V) (old new : Shape K V) : Type 0 where
  pub put : IsPut R k v (pairs old) (pairs new)
  pub trie : IsTrie bit bits depth new
