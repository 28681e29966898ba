-- What a tree is, and what is cached in it.
use Rattle.std.specs.Prelude.{◌≡◌, ℕ, ◌≤◌, Bool, List, length, Option, IfSome}
use Rattle.sha2.specs.Sha256.{sha256}
use Rattle.merkle.specs.Shape.{Shape, none, one, fork, pairs, IsTrie, leaf_text, digest_of, least}
use Rattle.merkle.specs.Remove.{kind}
use Rattle.merkle.specs.declared.fork.Leaf.{Leaf as LeafOf}
use Rattle.merkle.specs.declared.fork.Fork.{Fork as ForkOf}
use Rattle.merkle.specs.declared.fork.Tree.{Tree, Empty, Leaf, Fork'}

abbrev pub one_leaf : {K V : Type 0} → LeafOf K V → Shape K V
one_leaf leaf = one leaf.entry.0 leaf.entry.1

abbrev pub shape : {K V : Type 0} → Tree K V → Shape K V
shape Empty = none
shape (Leaf leaf) = one leaf.value.entry.0 leaf.value.entry.1
shape (Fork' p l r d m n) = fork (shape l) (shape r)

abbrev pub fork_shape : {K V : Type 0} → ForkOf K V → Shape K V
fork_shape f = fork (shape f.left) (shape f.right)

-- the hash of a leaf's key and its digest are right
pub record IsLeafCached {K V : Type 0} (hash : K → List ℕ) (text : K → V → List ℕ) (leaf : LeafOf K V) : Type 0 where
  pub hashed : leaf.hash ≡ hash leaf.entry.0
  pub digested : leaf.digest ≡ sha256 (leaf_text text leaf.entry.0 leaf.entry.1)

-- all that is cached at leaves and forks is right
abbrev pub IsCached : {K V : Type 0} → (K → List ℕ) → (K → V → List ℕ) → (V → Option ℕ) → Tree K V → Type 0
IsCached hash text due Empty = Unit {0}
IsCached hash text due (Leaf leaf) = IsLeafCached hash text leaf.value
IsCached hash text due (Fork' p l r d m n) =
    IfSome d (λ digest. digest ≡ digest_of text (fork (shape l) (shape r))) × (m ≡ least due (shape l)) × (n ≡ least due (shape r)) × IsCached hash text due l × IsCached hash text due r

-- the same of a fork, apart from its own digest
pub record AreSidesCached {K V : Type 0} (hash : K → List ℕ) (text : K → V → List ℕ) (due : V → Option ℕ) (f : ForkOf K V) : Type 0 where
  pub left_due : f.left_due ≡ least due (shape f.left)
  pub right_due : f.right_due ≡ least due (shape f.right)
  pub left : IsCached hash text due f.left
  pub right : IsCached hash text due f.right

abbrev pub IsForkCached : {K V : Type 0} → (K → List ℕ) → (K → V → List ℕ) → (V → Option ℕ) → ForkOf K V → Type 0
IsForkCached hash text due f =
    IfSome f.digest (λ digest. digest ≡ digest_of text (fork_shape f)) × (f.left_due ≡ least due (shape f.left)) × (f.right_due ≡ least due (shape f.right)) × IsCached hash text due f.left × IsCached hash text due f.right

-- the same tree, kept elsewhere
abbrev pub IsSameTree : {K V : Type 0} → Tree K V → Tree K V → Type 0
IsSameTree {K} {V} a b = (shape b ≡ shape a) × ((hash : K → List ℕ) (text : K → V → List ℕ) (due : V → Option ℕ) → IsCached hash text due a → IsCached hash text due b)

-- the same of a fork
pub record IsSameFork {K V : Type 0} (a b : ForkOf K V) : Type 0 where
  pub left : IsSameTree a.left b.left
  pub right : IsSameTree a.right b.right
  pub digest : b.digest ≡ a.digest
  pub left_due : b.left_due ≡ a.left_due
  pub right_due : b.right_due ≡ a.right_due

-- a fork over these two
pub record IsForkOf {K V : Type 0} (hash : K → List ℕ) (text : K → V → List ℕ) (due : V → Option ℕ) (tree left right : Tree K V) : Type 0 where
  pub shaped : shape tree ≡ fork (shape left) (shape right)
  pub cached : IsCached hash text due tree

-- a tree of this leaf alone
pub record IsLeafOf {K V : Type 0} (hash : K → List ℕ) (text : K → V → List ℕ) (due : V → Option ℕ) (tree : Tree K V) (leaf : LeafOf K V) : Type 0 where
  pub shaped : shape tree ≡ one_leaf leaf
  pub cached : IsCached hash text due tree

-- a leaf of this entry
pub record IsLeaf {K V : Type 0} (hash : K → List ℕ) (text : K → V → List ℕ) (entry : K × V) (leaf : LeafOf K V) : Type 0 where
  pub same : leaf.entry ≡ entry
  pub cached : IsLeafCached hash text leaf

-- what a fork over less than two keys has, taken out of it
pub record IsSmallOf {K V : Type 0} (small : Tree K V) (f : ForkOf K V) : Type 0 where
  pub same : pairs (shape small) ≡ pairs (fork_shape f)
  pub few : kind (shape small) ≤ 1
  pub first : (due : V → Option ℕ) → least due (shape small) ≡ least due (fork_shape f)
  pub cached : (hash : K → List ℕ) (text : K → V → List ℕ) (due : V → Option ℕ) → IsForkCached hash text due f → IsCached hash text due small

-- a tree from its root on, the first due time of its values, and how many these are
pub record IsMap {K V : Type 0} (hash : K → List ℕ) (text : K → V → List ℕ) (due : V → Option ℕ) (bit : K → ℕ → Bool) (bits : ℕ) (tree : Tree K V) (first : Option ℕ) (count : ℕ) : Type 0 where
  pub trie : IsTrie bit bits 0 (shape tree)
  pub cached : IsCached hash text due tree
  pub soonest : first ≡ least due (shape tree)
  pub counted : count ≡ length (pairs (shape tree))
