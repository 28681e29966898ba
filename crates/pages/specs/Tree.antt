-- A tree over the digests of the pages: a branch over those of each group, and a top over the roots of the branches. Each
-- of these has all its nodes in one list: node 1 is the root, the nodes below node k are 2k and 2k + 1, and the last ones,
-- as many as a group has pages, are the leaves.
use Rattle.std.specs.Prelude.{◌≡◌, ℕ, ◌+◌, ◌*◌, ◌<◌, List, [], length, drop, map, slice_index_or, Bool, true, false}
use Rattle.std.specs.List.{flat_map}
use Rattle.wire.specs.Token.{inner_text}
use Rattle.token.specs.Digest.{digest, root_of}
use Rattle.pages.specs.Group.{AreLong}
use Rattle.pages.specs.declared.group.TheConstants.{GROUPS, GROUP_PAGES}

abbrev pub leaves : List (List ℕ) → List (List ℕ)
leaves nodes = drop GROUP_PAGES nodes

-- node k is the digest of the two below it
abbrev pub IsAbove : List (List ℕ) → ℕ → Type 0
IsAbove nodes k =
    slice_index_or nodes k [] ≡ digest (inner_text (record { left = slice_index_or nodes (2 * k) []; right = slice_index_or nodes (2 * k + 1) [] }))

-- Each inner node is the digest of the two below it.
pub record IsTree (nodes : List (List ℕ)) : Type 0 where
  pub count : length nodes ≡ 2 * GROUP_PAGES
  pub above : (k : ℕ) → 0 < k → k < GROUP_PAGES → IsAbove nodes k

-- Node k is the digest of the two below it, or else one of them is marked as changed.
abbrev pub IsAboveSame : List (List ℕ) → List Bool → ℕ → Type 0
IsAboveSame nodes changed k = slice_index_or changed (2 * k) false ≡ false → slice_index_or changed (2 * k + 1) false ≡ false → IsAbove nodes k

-- how many levels the root of a branch is above its leaves, and that of the top above the roots of branches
abbrev pub branch_height : ℕ
branch_height = 4

abbrev pub branch_root : List (List ℕ) → List ℕ
branch_root digests = root_of branch_height digests

-- the leaves of all branches, in the order of the groups
abbrev pub leaves_of : List (List (List ℕ)) → List (List ℕ)
leaves_of branches = flat_map (λ branch. branch) branches

-- As many branches as a store has groups, each of as many digests as a group has pages, and a top that is over their roots if
-- it is right.
pub record AreBranches (branches : List (List (List ℕ))) (top : List (List ℕ)) (is_right : Bool) : Type 0 where
  pub count : length branches ≡ GROUPS
  pub each : AreLong branches
  pub over : is_right ≡ true → top ≡ map branch_root branches
