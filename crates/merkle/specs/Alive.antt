-- What is still there at a moment.
use Rattle.std.specs.Prelude.{◌≡◌, ℕ, ◌<◌, ◌≤◌, suc, Bool, true, false, List, ◌++◌, length, Option, Some, None, nat_lt, filter}
use Rattle.std.specs.declared.cmp.Ordering.{Ordering}
use Rattle.std.specs.FinMap.{FinMap, entries, from_sorted}
use Rattle.merkle.specs.Shape.{Shape, pairs, AllOn, IsTrie}

-- without a due time, or with one above the moment
abbrev pub is_above : ℕ → Option ℕ → Bool
is_above moment None = true
is_above moment (Some t) = nat_lt moment t

-- those that are there
abbrev pub alive_entries : {K V : Type 0} → (V → Option ℕ) → ℕ → List (K × V) → List (K × V)
alive_entries due moment es = filter (λ e. is_above moment (due e.1)) es

-- a tree at this depth of which a part of what is due was dropped, and nothing else
pub record IsPartOf {K V : Type 0} (due : V → Option ℕ) (bit : K → ℕ → Bool) (bits depth moment : ℕ) (old new : Shape K V) : Type 0 where
  pub same : alive_entries due moment (pairs new) ≡ alive_entries due moment (pairs old)
  pub sides : (test : K → Bool) (side : Bool) → AllOn test side (pairs old) → AllOn test side (pairs new)
  pub trie : IsTrie bit bits depth new
  pub fewer : length (pairs new) ≤ length (pairs old)

-- the same of a fork, over which there may be less than two keys
pub record IsLessOf {K V : Type 0} (due : V → Option ℕ) (bit : K → ℕ → Bool) (bits depth moment : ℕ) (old left right : Shape K V) : Type 0 where
  pub same : alive_entries due moment (pairs left ++ pairs right) ≡ alive_entries due moment (pairs old)
  pub sides : (test : K → Bool) (side : Bool) → AllOn test side (pairs old) → AllOn test side (pairs left ++ pairs right)
  pub within : depth < bits
  pub lefts : AllOn (λ k. bit k depth) false (pairs left)
  pub rights : AllOn (λ k. bit k depth) true (pairs right)
  pub left_trie : IsTrie bit bits (suc depth) left
  pub right_trie : IsTrie bit bits (suc depth) right
  pub fewer : length (pairs left ++ pairs right) ≤ length (pairs old)

-- nothing of it is due
abbrev pub IsAlive : {K V : Type 0} → (V → Option ℕ) → ℕ → Shape K V → Type 0
IsAlive due moment s = alive_entries due moment (pairs s) ≡ pairs s

-- the same of a map
abbrev pub alive_map : {K V : Type 0} {R : K → K → Ordering} → (V → Option ℕ) → ℕ → FinMap R V → FinMap R V
alive_map due moment m = from_sorted (alive_entries due moment (entries m))
