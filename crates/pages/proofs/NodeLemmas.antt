-- A tree with all its nodes in one list: its root, and how it is renewed.
use Rattle.std.proofs.Common.{◌≡◌, ◌≢◌, ℕ, zero, suc, ◌+◌, ◌*◌, ◌<◌, ◌≤◌, Bool, true, false, List, [], ◌∷◌, length, drop, get_or, set, refl, sym, ap, ◌∙◌, arith, subst, inl, inr}
use Rattle.std.proofs.Math.Nat.{eq-or-lt_of_le}
use Rattle.std.proofs.lemmas.List.{ext_get_or, length-drop, get_or-drop, drop_more, drop-set-lt, get_or_default, get_or-set_same, get_or-set_other, length-set}
use Rattle.wire.specs.Token.{inner_text}
use Rattle.token.specs.Digest.{digest, level, levels, only, root_of}
use Rattle.pages.specs.Tree.{leaves, branch_root, IsAbove, IsTree, IsAboveSame}
use Rattle.pages.specs.declared.group.TheConstants.{GROUP_PAGES}

-- so many nodes from node a on
abbrev nodes_from : List (List ℕ) → ℕ → ℕ → List (List ℕ)
nodes_from nodes a zero = []
nodes_from nodes a (suc n) = get_or nodes a [] ∷ nodes_from nodes (a + 1) n

drop-is : (nodes : List (List ℕ)) (a n : ℕ) → length nodes ≡ a + n → drop a nodes ≡ nodes_from nodes a n
drop-is nodes a zero e = drop-end nodes a (omega arith)
  where
    drop-end : (nodes : List (List ℕ)) (a : ℕ) → length nodes ≤ a → drop a nodes ≡ []
    drop-end [] zero l = refl
    drop-end [] (suc a) l = refl
    drop-end (x ∷ nodes) zero l = absurd (omega arith)
    drop-end (x ∷ nodes) (suc a) l = drop-end nodes a (omega arith)
drop-is nodes a (suc n) e = drop_more nodes a [] (omega arith) ∙ ap (λ (rest : List (List ℕ)). get_or nodes a [] ∷ rest) (drop-is nodes (a + 1) n (omega arith))

-- one level up
level-from : (nodes : List (List ℕ)) (a n : ℕ) → ((k : ℕ) → a ≤ k → k < a + n → IsAbove nodes k) → level (nodes_from nodes (2 * a) (2 * n)) ≡ nodes_from nodes a n
level-from nodes a zero above = refl
level-from nodes a (suc n) above =
    let here : digest (inner_text (record { left = get_or nodes (2 * a) []; right = get_or nodes (2 * a + 1) [] })) ≡ get_or nodes a [] = sym (above a (omega arith) (omega arith)) in
    let twice : 2 * suc n ≡ suc (suc (2 * n)) = omega arith in
    let next : 2 * a + 1 + 1 ≡ 2 * (a + 1) = omega arith in
    ap (λ m. level (nodes_from nodes (2 * a) m)) twice
    ∙ (λ i. here i ∷ level (nodes_from nodes (next i) (2 * n)))
    ∙ ap (λ (rest : List (List ℕ)). get_or nodes a [] ∷ rest) (level-from nodes (a + 1) n (λ k from below. above k (omega arith) (omega arith)))

-- The inner nodes from k on are renewed, and those below k where nothing under them is marked.
pub record IsRenewed (old nodes : List (List ℕ)) (changed : List Bool) (k : ℕ) : Type 0 where
  pub count : length nodes ≡ 2 * GROUP_PAGES
  pub marks : length changed ≡ 2 * GROUP_PAGES
  pub kept : leaves nodes ≡ leaves old
  pub done : (j : ℕ) → 0 < j → k ≤ j → j < GROUP_PAGES → IsAbove nodes j
  pub left : (j : ℕ) → 0 < j → j < k → IsAboveSame nodes changed j

module _ (nodes : List (List ℕ)) (tree : IsTree nodes) where
  level-up : (n : ℕ) → 0 < n → n + n ≤ GROUP_PAGES → level (nodes_from nodes (2 * n) (2 * n)) ≡ nodes_from nodes n n
  level-up n some few = level-from nodes n n (λ k from below. tree.above k (omega (arith, some, from)) (omega (arith, below, few)))

  -- node 1 is what is left four levels up
  pub root-of_nodes : branch_root (leaves nodes) ≡ get_or nodes 1 []
  unfolding root_of
  root-of_nodes = ap only
      (ap (levels 4) (drop-is nodes GROUP_PAGES GROUP_PAGES (omega (arith, tree.count)))
      ∙ ap (levels 3) (level-up 8 (omega arith) (omega arith)) ∙ ap (levels 2) (level-up 4 (omega arith) (omega arith))
      ∙ ap (levels 1) (level-up 2 (omega arith) (omega arith)) ∙ level-up 1 (omega arith) (omega arith))

  -- the root that was read
  pub read-root : (root : List ℕ) → root ≡ get_or nodes 1 root → root ≡ branch_root (leaves nodes)
  read-root root read = read ∙ get_or_default nodes 1 root [] (omega (arith, tree.count)) ∙ sym root-of_nodes

module _ (nodes : List (List ℕ)) (m : ℕ) (d : List ℕ) where
  -- a node is still above the two below it if none of the three was set
  above-set : (j : ℕ) → j ≢ m → 2 * j ≢ m → 2 * j + 1 ≢ m → IsAbove nodes j → IsAbove (set nodes m d) j
  above-set j here left right above =
      get_or-set_other nodes m j d [] here ∙ above
      ∙ (λ i. digest (inner_text (record { left = sym (get_or-set_other nodes m (2 * j) d [] left) i; right = sym (get_or-set_other nodes m (2 * j + 1) d [] right) i })))

  -- a node that was made of the two below it
  above-made : 0 < m → m < length nodes → d ≡ digest (inner_text (record { left = get_or nodes (2 * m) []; right = get_or nodes (2 * m + 1) [] })) → IsAbove (set nodes m d) m
  above-made some within made =
      let left : 2 * m ≢ m = λ e. omega (arith, e, some) in
      let right : 2 * m + 1 ≢ m = λ e. omega (arith, e) in
      get_or-set_same nodes m d [] within ∙ made
      ∙ (λ i. digest (inner_text (record { left = sym (get_or-set_other nodes m (2 * m) d [] left) i; right = sym (get_or-set_other nodes m (2 * m + 1) d [] right) i })))

-- a mark that is not set after one was: it is another, and was not set before
unmarked : (changed : List Bool) (m i : ℕ) → m < length changed → get_or (set changed m true) i false ≡ false → (i ≢ m) × (get_or changed i false ≡ false)
unmarked changed m i within not = (apart, sym (get_or-set_other changed m i true false apart) ∙ not)
  where
    apart : i ≢ m
    apart e = absurd (let yes : true ≡ false = sym (get_or-set_same changed m true false within) ∙ ap (λ (n : ℕ). get_or (set changed m true) n false) (sym e) ∙ not in cc)

module _ (old nodes : List (List ℕ)) (changed : List Bool) (m : ℕ) (so_far : IsRenewed old nodes changed (m + 1)) (some : 0 < m) (few : m < GROUP_PAGES) where
  -- a node that is above a changed one is recomputed, and marked
  pub renewed-made : (d : List ℕ) → d ≡ digest (inner_text (record { left = get_or nodes (2 * m) []; right = get_or nodes (2 * m + 1) [] }))
      → IsRenewed old (set nodes m d) (set changed m true) m
  renewed-made d made = record {
    count = length-set nodes m d ∙ so_far.count;
    marks = length-set changed m true ∙ so_far.marks;
    kept = drop-set-lt GROUP_PAGES nodes m d few ∙ so_far.kept;
    done = done;
    left = λ j low high left right.
        let l = unmarked changed m (2 * j) within left in
        let r = unmarked changed m (2 * j + 1) within right in
        above-set nodes m d j (λ e. omega (arith, e, high)) l.0 r.0 (so_far.left j low (omega (arith, high)) l.1 r.1);
  }
    where
      within : m < length changed
      within = omega (arith, few, so_far.marks)

      done : (j : ℕ) → 0 < j → m ≤ j → j < GROUP_PAGES → IsAbove (set nodes m d) j
      done j low from high = elim (eq-or-lt_of_le from) [
        | inl e ↦ subst (IsAbove (set nodes m d)) e (above-made nodes m d some (omega (arith, few, so_far.count)) made)
        | inr h ↦ above-set nodes m d j (λ e. omega (arith, e, h)) (λ e. omega (arith, e, h)) (λ e. omega (arith, e, h)) (so_far.done j low (omega (arith, h)) high)
      ]

  -- any other stays
  pub renewed-same : get_or changed (2 * m) false ≡ false → get_or changed (2 * m + 1) false ≡ false → IsRenewed old nodes changed m
  renewed-same left right = record { count = so_far.count; marks = so_far.marks; kept = so_far.kept; done = done; left = λ j low high. so_far.left j low (omega (arith, high)) }
    where
      done : (j : ℕ) → 0 < j → m ≤ j → j < GROUP_PAGES → IsAbove nodes j
      done j low from high = elim (eq-or-lt_of_le from) [
        | inl e ↦ subst (IsAbove nodes) e (so_far.left m some (omega arith) left right)
        | inr h ↦ so_far.done j low (omega (arith, h)) high
      ]

-- The first leaves are set, and each node that differs from the one before is a marked leaf.
pub record AreSet (old digests nodes : List (List ℕ)) (changed : List Bool) (n : ℕ) : Type 0 where
  pub count : length nodes ≡ 2 * GROUP_PAGES
  pub marks : length changed ≡ 2 * GROUP_PAGES
  pub leaves_are : (k : ℕ) → k < n → get_or nodes (GROUP_PAGES + k) [] ≡ get_or digests k []
  pub inner : (k : ℕ) → k < GROUP_PAGES → get_or changed k false ≡ false
  pub same : (k : ℕ) → get_or changed k false ≡ false → get_or nodes k [] ≡ get_or old k []

-- all leaves are these digests
pub leaves-are : (digests nodes : List (List ℕ)) (n : ℕ) → length nodes ≡ 2 * GROUP_PAGES → GROUP_PAGES ≤ n → length digests ≡ GROUP_PAGES
    → ((k : ℕ) → k < n → get_or nodes (GROUP_PAGES + k) [] ≡ get_or digests k []) → leaves nodes ≡ digests
leaves-are digests nodes n count all many at =
    let long : length (leaves nodes) ≡ GROUP_PAGES = length-drop GROUP_PAGES nodes ∙ omega (arith, count) in
    ext_get_or [] (leaves nodes) digests (long ∙ sym many) (λ k within. get_or-drop GROUP_PAGES nodes k [] ∙ at k (omega (arith, within, long, all)))
