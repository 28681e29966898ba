-- Where a key is among sorted entries, or would be, and what an edit there does.
use Rattle.std.specs.Prelude.{◌≡◌, ℕ, ◌<◌, ◌≤◌, List, length, slice_index_or, slice_set, insert, remove, Some, None, not}
use Rattle.std.specs.declared.cmp.Ordering.{Ordering}
use Rattle.std.specs.Ordering.{eq_by_cmp}
use Rattle.std.specs.FinMap.{find, put}
use Rattle.std.specs.FinMap.Entries.{where_key}

-- the entry at place i has the key
pub record IsAt {K X : Type 0} (R : K → K → Ordering) (es : List (K × X)) (key : K) (i : ℕ) : Type 0 where
  pub in_range : i < length es
  pub found : (e : K × X) → find R key es ≡ Some (slice_index_or es i e).1
  pub written : (x : X) → slice_set es i (key, x) ≡ put R key x es
  pub taken : remove es i ≡ where_key R (λ k. not (eq_by_cmp R key k)) es

-- no entry has the key, and it would go to place i
pub record IsGap {K X : Type 0} (R : K → K → Ordering) (es : List (K × X)) (key : K) (i : ℕ) : Type 0 where
  pub in_range : i ≤ length es
  pub absent : find R key es ≡ None
  pub added : (x : X) → insert es i (key, x) ≡ put R key x es
  pub kept : where_key R (λ k. not (eq_by_cmp R key k)) es ≡ es
