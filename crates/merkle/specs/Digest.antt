-- The tree of a map, and its digest.
use Rattle.std.specs.Prelude.{ℕ, zero, suc, Bool, not, List, [], ◌∷◌, ◌++◌, filter}
use Rattle.std.specs.declared.cmp.Ordering.{Ordering}
use Rattle.std.specs.FinMap.{FinMap, entries}
use Rattle.merkle.specs.Shape.{Shape, none, one, fork, leaf_text, fork_text, hash_of, is_none, joined, pairs}

-- those whose keys pass the test
abbrev pub on_side : {K V : Type 0} → (K → Bool) → List (K × V) → List (K × V)
on_side test es = filter (λ e. test e.0) es

-- a fork over both, if each has a key
abbrev pub fork_over : {K V : Type 0} → Shape K V → Shape K V → Shape K V
fork_over l r = joined (is_none l) (is_none r) l r (fork l r)

-- keys whose paths are equal to their ends. No map has such
abbrev pub chain_of : {K V : Type 0} → List (K × V) → Shape K V
chain_of [] = none
chain_of (e ∷ es) = fork (one e.0 e.1) (chain_of es)

-- The tree of these entries: two or more are parted by the first bit, from this depth on, in which their paths differ.
-- So many bits are left.
abbrev pub tree_of : {K V : Type 0} → (K → ℕ → Bool) → ℕ → ℕ → List (K × V) → Shape K V
tree_of bit left depth [] = none
tree_of bit left depth (e ∷ []) = one e.0 e.1
tree_of bit zero depth (e ∷ f ∷ es) = chain_of (e ∷ f ∷ es)
tree_of bit (suc left) depth (e ∷ f ∷ es) = fork_over
    (tree_of bit left (suc depth) (on_side (λ k. not (bit k depth)) (e ∷ f ∷ es)))
    (tree_of bit left (suc depth) (on_side (λ k. bit k depth) (e ∷ f ∷ es)))

-- the texts that are hashed for the digest of a tree
abbrev pub texts_of : {K V : Type 0} → (K → V → List ℕ) → Shape K V → List (List ℕ)
texts_of text none = [] ∷ []
texts_of text (one k v) = leaf_text text k v ∷ []
texts_of text (fork l r) = fork_text (hash_of text l) (hash_of text r) ∷ (texts_of text l ++ texts_of text r)

-- of a map, whose keys have paths of so many bits
unfoldable pub map_tree : {K V : Type 0} {R : K → K → Ordering} → (K → ℕ → Bool) → ℕ → FinMap R V → Shape K V
map_tree bit bits m = tree_of bit bits 0 (entries m)

-- its entries in the order of their paths
abbrev pub map_pairs : {K V : Type 0} {R : K → K → Ordering} → (K → ℕ → Bool) → ℕ → FinMap R V → List (K × V)
map_pairs bit bits m = pairs (map_tree bit bits m)

abbrev pub map_digest : {K V : Type 0} {R : K → K → Ordering} → (K → V → List ℕ) → (K → ℕ → Bool) → ℕ → FinMap R V → List ℕ
map_digest text bit bits m = hash_of text (map_tree bit bits m)

abbrev pub map_texts : {K V : Type 0} {R : K → K → Ordering} → (K → V → List ℕ) → (K → ℕ → Bool) → ℕ → FinMap R V → List (List ℕ)
map_texts text bit bits m = texts_of text (map_tree bit bits m)
