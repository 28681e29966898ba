-- A digest tells the map that it is of.
use Rattle.std.proofs.Common.{◌≡◌, ℕ, zero, suc, ◌+◌, Bool, true, false, cond, not, List, [], ◌∷◌, ◌++◌, length, Option, Some, None, refl, sym, ap, ◌∙◌, arith, append-nil}
use Rattle.std.specs.Prelude.{Contains}
use Rattle.std.proofs.lemmas.List.{length-append}
use Rattle.std.proofs.lemmas.List.Filters.{length-filter_both}
use Rattle.std.proofs.lemmas.List.Elements.{Contains-append_left, Contains-append_right}
use Rattle.std.specs.declared.cmp.Ordering.{Ordering}
use Rattle.std.specs.Cmp.{IsTotalOrder}
use Rattle.std.specs.FinMap.{FinMap, entries, find, from_entries, get-entries, get-from_entries, IsAntisymmetric, entries_sorted, same_map, same_entries_map}
use Rattle.std.specs.FinMap.Entries.{find-where_key, same_entries}
use Rattle.sha2.proofs.Facts256.{length-sha256}
use Rattle.wire.specs.FrontLaws.{split_at}
use Rattle.merkle.specs.Shape.{Shape, none, one, fork, pairs, leaf_text, fork_text, hash_of}
use Rattle.merkle.specs.Digest.{on_side, fork_over, chain_of, tree_of, texts_of, map_tree, map_pairs, map_texts, map_digest}
use Rattle.wire.specs.Distinct.{Distinct}
use Rattle.merkle.specs.Laws.{TextsAreAmong, IsExact, TellsMaps}
use Rattle.merkle.proofs.PutLemmas.{or_else, find_append}

not-not : (b : Bool) → not (not b) ≡ b
not-not true = refl
not-not false = refl

tail_of : List ℕ → List ℕ
tail_of [] = []
tail_of (x ∷ xs) = xs

two_fronts : (a b c d : List ℕ) → length a ≡ 32 → length c ≡ 32 → fork_text a b ≡ fork_text c d → (a ≡ c) × (b ≡ d)
unfolding tail_of
two_fronts a b c d k l e = split_at a c b d (k ∙ sym l) (ap tail_of e)

-- texts of other marks differ
not_leaf : (xs ys : List ℕ) → 1 ∷ xs ≡ 5 ∷ ys → ⊥
not_leaf xs ys e = (let h : ◌≡◌ {A = ℕ} 1 5 = cc e in cc h)

not_empty : (x : ℕ) (xs : List ℕ) → [] ≡ x ∷ xs → ⊥
not_empty x xs e = cc

module _ (among : List ℕ → Type 0) where
  first_among : (x : List ℕ) (xs : List (List ℕ)) → TextsAreAmong (x ∷ xs) among → among x
  first_among x xs h = h.each x (0, omega arith, refl)

  pub rest_among : (x : List ℕ) (xs : List (List ℕ)) → TextsAreAmong (x ∷ xs) among → TextsAreAmong xs among
  rest_among x xs h = record { each = later }
    where
      later : (y : List ℕ) → Contains xs y → among y
      later y (k, lt, e) = h.each y (suc k, omega (arith, lt), e)

  pub left_among : (xs ys : List (List ℕ)) → TextsAreAmong (xs ++ ys) among → TextsAreAmong xs among
  left_among xs ys h = record { each = λ x c. h.each x (Contains-append_left xs ys x c) }

  pub right_among : (xs ys : List (List ℕ)) → TextsAreAmong (xs ++ ys) among → TextsAreAmong ys among
  right_among xs ys h = record { each = λ x c. h.each x (Contains-append_right xs ys x c) }

module _ {K V : Type 0} (text : K → V → List ℕ) where
  length-hash : (s : Shape K V) → length (hash_of text s) ≡ 32
  length-hash none = length-sha256 []
  length-hash (one k v) = length-sha256 _
  length-hash (fork l r) = length-sha256 _

  module _ (exact : IsExact text) (among : List ℕ → Type 0) (distinct : Distinct among) where
    same_leaf : (k j : K) (v w : V) → leaf_text text k v ≡ leaf_text text j w → one k v ≡ one j w
    unfolding tail_of
    same_leaf k j v w e = (let both = exact k j v w (ap tail_of e) in λ i. one (both.0 i) (both.1 i))

    -- trees of one digest are one tree
    pub told : (s t : Shape K V) → TextsAreAmong (texts_of text s) among → TextsAreAmong (texts_of text t) among → hash_of text s ≡ hash_of text t → s ≡ t
    told none none p q d = refl
    told none (one k v) p q d = absurd (not_empty 5 _ (distinct _ _ (first_among among _ _ p) (first_among among _ _ q) d))
    told none (fork l r) p q d = absurd (not_empty 1 _ (distinct _ _ (first_among among _ _ p) (first_among among _ _ q) d))
    told (one k v) none p q d = absurd (not_empty 5 _ (sym (distinct _ _ (first_among among _ _ p) (first_among among _ _ q) d)))
    told (one k v) (one j w) p q d = same_leaf k j v w (distinct _ _ (first_among among _ _ p) (first_among among _ _ q) d)
    told (one k v) (fork l r) p q d = absurd (not_leaf _ _ (sym (distinct _ _ (first_among among _ _ p) (first_among among _ _ q) d)))
    told (fork l r) none p q d = absurd (not_empty 1 _ (sym (distinct _ _ (first_among among _ _ p) (first_among among _ _ q) d)))
    told (fork l r) (one k v) p q d = absurd (not_leaf _ _ (distinct _ _ (first_among among _ _ p) (first_among among _ _ q) d))
    told (fork l r) (fork m n) p q d =
        let both = two_fronts (hash_of text l) (hash_of text r) (hash_of text m) (hash_of text n) (length-hash l) (length-hash m) (distinct _ _ (first_among among _ _ p) (first_among among _ _ q) d) in
        let p' = rest_among among _ _ p in
        let q' = rest_among among _ _ q in
        let left = told l m (left_among among (texts_of text l) (texts_of text r) p') (left_among among (texts_of text m) (texts_of text n) q') both.0 in
        let right = told r n (right_among among (texts_of text l) (texts_of text r) p') (right_among among (texts_of text m) (texts_of text n) q') both.1 in
        λ i. fork (left i) (right i)

-- the entries of a fork are those of its sides
pub pairs_over : {K V : Type 0} (l r : Shape K V) → pairs (fork_over l r) ≡ pairs l ++ pairs r
pairs_over none r = refl
pairs_over (one k v) none = refl
pairs_over (one k v) (one j w) = refl
pairs_over (one k v) (fork m n) = refl
pairs_over (fork l m) none = sym (append-nil (pairs (fork l m)))
pairs_over (fork l m) (one j w) = refl
pairs_over (fork l m) (fork n r) = refl

pub pairs_chain : {K V : Type 0} (es : List (K × V)) → pairs (chain_of es) ≡ es
pairs_chain [] = refl
pairs_chain (e ∷ es) = ap (λ xs. e ∷ xs) (pairs_chain es)

module _ {K V : Type 0} {R : K → K → Ordering} (same : IsAntisymmetric R) (bit : K → ℕ → Bool) where
  -- what is found on both sides is what is found in all
  on_sides : (test : K → Bool) (q : K) (es : List (K × V)) → or_else (find R q (on_side (λ k. not (test k)) es)) (find R q (on_side test es)) ≡ find R q es
  on_sides test q es =
      (λ i. or_else (find-where_key R (λ k. not (test k)) q (λ x t. ap (λ k. not (test k)) (sym (same q x t))) es i) (find-where_key R test q (λ x t. ap test (sym (same q x t))) es i))
      ∙ by (test q) (find R q es)
    where
      by : (b : Bool) (o : Option V) → or_else (cond (not b) o None) (cond b o None) ≡ o
      by true o = refl
      by false None = refl
      by false (Some v) = refl

  -- the tree of entries has just these
  found : (left depth : ℕ) (q : K) (es : List (K × V)) → find R q (pairs (tree_of bit left depth es)) ≡ find R q es
  found left depth q [] = refl
  found left depth q (e ∷ []) = refl
  found zero depth q (e ∷ f ∷ es) = ap (find R q) (pairs_chain (e ∷ f ∷ es))
  found (suc left) depth q (e ∷ f ∷ es) =
      let test : K → Bool = λ k. bit k depth in
      let other : K → Bool = λ k. not (bit k depth) in
      let all : List (K × V) = e ∷ f ∷ es in
      let l = tree_of bit left (suc depth) (on_side other all) in
      let r = tree_of bit left (suc depth) (on_side test all) in
      ap (find R q) (pairs_over l r) ∙ find_append R q (pairs l) (pairs r)
      ∙ (λ i. or_else (found left (suc depth) q (on_side other all) i) (found left (suc depth) q (on_side test all) i))
      ∙ on_sides test q all

module _ {K V : Type 0} (bit : K → ℕ → Bool) where
  -- as many as there are
  length_tree : (left depth : ℕ) (es : List (K × V)) → length (pairs (tree_of bit left depth es)) ≡ length es
  length_tree left depth [] = refl
  length_tree left depth (e ∷ []) = refl
  length_tree zero depth (e ∷ f ∷ es) = ap length (pairs_chain (e ∷ f ∷ es))
  length_tree (suc left) depth (e ∷ f ∷ es) =
      let all : List (K × V) = e ∷ f ∷ es in
      let l = tree_of bit left (suc depth) (on_side (λ k. not (bit k depth)) all) in
      let r = tree_of bit left (suc depth) (on_side (λ k. bit k depth) all) in
      ap length (pairs_over l r) ∙ length-append (pairs l) (pairs r)
      ∙ (λ i. length_tree left (suc depth) (on_side (λ k. not (bit k depth)) all) i + length_tree left (suc depth) (on_side (λ k. bit k depth) all) i)
      ∙ length-filter_both (λ e. not (bit e.0 depth)) (λ e. bit e.0 depth) (λ e. sym (not-not (bit e.0 depth))) all

pub length_pairs : {K V : Type 0} {R : K → K → Ordering} (bit : K → ℕ → Bool) (bits : ℕ) (m : FinMap R V) → length (map_pairs bit bits m) ≡ length (entries m)
unfolding map_tree
length_pairs bit bits m = length_tree bit bits 0 (entries m)

-- the entries of a map in the order of their paths are the map's
pub pairs_make : {K V : Type 0} {R : K → K → Ordering} → IsTotalOrder R → IsAntisymmetric R → (bit : K → ℕ → Bool) (bits : ℕ) (m : FinMap R V) → from_entries {R = R} (map_pairs bit bits m) ≡ m
unfolding map_tree
pairs_make o same bit bits m = same_map o same _ _ (λ q. get-from_entries o (map_pairs bit bits m) q ∙ found same bit bits 0 q (entries m) ∙ sym (get-entries m q))

pub same_maps : {K V : Type 0} {R : K → K → Ordering} → IsTotalOrder R → IsAntisymmetric R → (text : K → V → List ℕ) (bit : K → ℕ → Bool) (bits : ℕ) → IsExact text → (among : List ℕ → Type 0) → Distinct among → (m n : FinMap R V)
    → TextsAreAmong (map_texts text bit bits m) among → TextsAreAmong (map_texts text bit bits n) among → map_digest text bit bits m ≡ map_digest text bit bits n → m ≡ n
unfolding map_tree
same_maps {R = R} o same text bit bits exact among distinct m n p q d =
    let e = told text exact among distinct (tree_of bit bits 0 (entries m)) (tree_of bit bits 0 (entries n)) p q d in
    same_entries_map m n (same_entries R o same (entries m) (entries n) (entries_sorted m) (entries_sorted n) (λ k.
    sym (found same bit bits 0 k (entries m)) ∙ ap (λ s. find R k (pairs s)) e ∙ found same bit bits 0 k (entries n)))

pub tells_maps : {K V : Type 0} {R : K → K → Ordering} → IsTotalOrder R → IsAntisymmetric R → (text : K → V → List ℕ) (bit : K → ℕ → Bool) (bits : ℕ) → TellsMaps {V = V} R text bit bits
tells_maps o same text bit bits exact texts distinct m n p q d = same_maps o same text bit bits exact (Contains texts) distinct m n p q d
