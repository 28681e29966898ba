-- If texts have distinct digests, the root of a tree tells its leaves, and the digests of pages tell the items.
use Rattle.std.proofs.Common.{◌≡◌, ℕ, zero, suc, ◌<◌, ◌*◌, ◌^◌, List, [], ◌∷◌, ◌++◌, map, length, refl, sym, ap, ◌∙◌, arith}
use Rattle.std.specs.Prelude.{Contains}
use Rattle.std.specs.FinMap.{entries}
use Rattle.std.specs.List.{range_with_len, flat_map}
use Rattle.std.proofs.Math.Nat.{pow-succ'}
use Rattle.std.proofs.lemmas.List.FromFn.{length-map-range_with_len}
use Rattle.items.specs.declared.item.Item.{Item}
use Rattle.items.specs.Map.{Items}
use Rattle.wire.specs.Record.{IsPrefixFree}
use Rattle.wire.specs.declared.token.InnerText.{InnerText}
use Rattle.wire.specs.Item.{page_text}
use Rattle.wire.specs.Token.{inner_text}
use Rattle.wire.specs.Distinct.{Distinct}
use Rattle.wire.specs.ItemLaws.{page_prefix_free}
use Rattle.wire.specs.TokenLaws.{inner_prefix_free}
use Rattle.token.specs.Digest.{digest, level, levels, only, root_of}
use Rattle.token.specs.declared.form.Form.{Form}
use Rattle.token.specs.declared.form.Form.TheVariants.{Old, Current, Tree}
use Rattle.token.specs.Form.{height_of, pages_of}
use Rattle.token.specs.declared.tree.TheConstants.{HEIGHT}
use Rattle.pages.specs.declared.layout.Layout.TheVariants as layout
use Rattle.pages.specs.Page.{entries_among, digest_among, each_among, page_items, page_digest_in}
use Rattle.pages.specs.Form.{root_by}
use Rattle.pages.proofs.FormLemmas.{same_among}
use Rattle.pages.proofs.PartLemmas.{entries-page_items}
use Rattle.merkle.specs.Shape.{Shape, none, one, fork, hash_of}
use Rattle.merkle.specs.Digest.{texts_of, map_tree}
use Rattle.merkle.specs.ItemLeaf.{item_leaf}
use Rattle.merkle.specs.KeyPath.{path_bit, path_bits}
use Rattle.item_tree.specs.Told.{items_texts}
use Rattle.item_tree.proofs.ToldLemmas.{tells_items}
use Rattle.run_laws.specs.Texts.{sorted_texts, tree_texts, page_texts, page_digests, pair_texts, inner_texts}
use Rattle.run_laws.specs.Met.{AreAmong}
use Rattle.run_laws.proofs.Elements.{among_head, among_tail, among_left, among_right}

-- whole texts of one kind are identified
pub same_value : {X : Type 0} {text : X → List ℕ} → IsPrefixFree text → (v w : X) → text v ≡ text w → v ≡ w
same_value {text = text} free v w e = (free.apart v w [] [] (ap (λ (t : List ℕ). t ++ []) e)).0

-- texts that have one digest are one, if these are distinguished
pub same_text : (among : List ℕ → Type 0) → Distinct among → (a b : List ℕ) → among a → among b → digest a ≡ digest b → a ≡ b
unfolding digest
same_text among distinct a b p q e = distinct a b p q e

length_level : (m : ℕ) (xs : List (List ℕ)) → length xs ≡ 2 * m → length (level xs) ≡ m
length_level zero [] e = refl
length_level (suc m) [] e = absurd (omega arith)
length_level m (x ∷ []) e = absurd (omega arith)
length_level zero (x ∷ y ∷ xs) e = absurd (omega arith)
length_level (suc m) (x ∷ y ∷ xs) e = ap suc (length_level m xs (omega arith))

length_levels : (n : ℕ) (xs : List (List ℕ)) → length xs ≡ 2 ^ n → length (levels n xs) ≡ 1
length_levels zero xs e = e
length_levels (suc n) xs e = length_levels n (level xs) (length_level (2 ^ n) xs (e ∙ pow-succ' 2 n))

same_only : (xs ys : List (List ℕ)) → length xs ≡ 1 → length ys ≡ 1 → only xs ≡ only ys → xs ≡ ys
same_only (x ∷ []) (y ∷ []) l k e = ap (λ (z : List ℕ). z ∷ []) e
same_only [] ys l k e = absurd (omega arith)
same_only (x ∷ x' ∷ xs) ys l k e = absurd (omega arith)
same_only (x ∷ []) [] l k e = absurd (omega arith)
same_only (x ∷ []) (y ∷ y' ∷ ys) l k e = absurd (omega arith)

abbrev first_of : List (List ℕ) → List ℕ
first_of [] = []
first_of (x ∷ xs) = x

-- a page's text is not that of an inner node
not_alike : (entries : List (List ℕ × Item)) (node : InnerText) → page_text entries ≡ inner_text node → ⊥
unfolding page_text inner_text
not_alike entries node e = (let marks : ◌≡◌ {A = ℕ} 0 1 = cc e in cc marks)

module _ (texts : List (List ℕ)) (distinct : Distinct (Contains texts)) where
  -- one level tells the one below
  same_below : (m : ℕ) (xs ys : List (List ℕ)) → length xs ≡ 2 * m → length ys ≡ 2 * m → AreAmong (pair_texts xs) texts → AreAmong (pair_texts ys) texts → level xs ≡ level ys → xs ≡ ys
  same_below zero [] [] l k p q e = refl
  same_below zero (x ∷ xs) ys l k p q e = absurd (omega arith)
  same_below zero [] (y ∷ ys) l k p q e = absurd (omega arith)
  same_below (suc m) [] ys l k p q e = absurd (omega arith)
  same_below (suc m) (x ∷ []) ys l k p q e = absurd (omega arith)
  same_below (suc m) (a ∷ b ∷ xs) [] l k p q e = absurd (omega arith)
  same_below (suc m) (a ∷ b ∷ xs) (c ∷ []) l k p q e = absurd (omega arith)
  same_below (suc m) (a ∷ b ∷ xs) (c ∷ d ∷ ys) l k p q e =
      let left : InnerText = record { left = a; right = b } in
      let right : InnerText = record { left = c; right = d } in
      let first : digest (inner_text left) ≡ digest (inner_text right) = cc e in
      let others : level xs ≡ level ys = cc e in
      let one = same_value inner_prefix_free left right (same_text (Contains texts) distinct (inner_text left) (inner_text right) (among_head _ _ texts p) (among_head _ _ texts q) first) in
      let rest = same_below m xs ys (omega arith) (omega arith) (among_tail _ _ texts p) (among_tail _ _ texts q) others in
      λ i. (one i).left ∷ (one i).right ∷ rest i

  same_leaves : (n : ℕ) (xs ys : List (List ℕ)) → length xs ≡ 2 ^ n → length ys ≡ 2 ^ n → AreAmong (inner_texts n xs) texts → AreAmong (inner_texts n ys) texts → levels n xs ≡ levels n ys → xs ≡ ys
  same_leaves zero xs ys l k p q e = e
  same_leaves (suc n) xs ys l k p q e =
      let left = l ∙ pow-succ' 2 n in
      let right = k ∙ pow-succ' 2 n in
      same_below (2 ^ n) xs ys left right
      (among_left (pair_texts xs) (inner_texts n (level xs)) texts p)
      (among_left (pair_texts ys) (inner_texts n (level ys)) texts q)
      (same_leaves n (level xs) (level ys) (length_level (2 ^ n) xs left) (length_level (2 ^ n) ys right)
      (among_right (pair_texts xs) (inner_texts n (level xs)) texts p)
      (among_right (pair_texts ys) (inner_texts n (level ys)) texts q)
      e)

  -- the root tells the leaves
  under_one_root : (n : ℕ) (xs ys : List (List ℕ)) → length xs ≡ 2 ^ n → length ys ≡ 2 ^ n → AreAmong (inner_texts n xs) texts → AreAmong (inner_texts n ys) texts → root_of n xs ≡ root_of n ys → xs ≡ ys
  unfolding root_of
  under_one_root n xs ys l k p q e =
      same_leaves n xs ys l k p q (same_only (levels n xs) (levels n ys) (length_levels n xs l) (length_levels n ys k) e)

  same_pages : (count : ℕ) (a b : Items) (ns : List ℕ) → AreAmong (map (λ p. page_text (entries_among count a p)) ns) texts → AreAmong (map (λ p. page_text (entries_among count b p)) ns) texts
      → map (digest_among count a) ns ≡ map (digest_among count b) ns → map (entries_among count a) ns ≡ map (entries_among count b) ns
  same_pages count a b [] p q e = refl
  same_pages count a b (n ∷ ns) p q e =
      let first : digest_among count a n ≡ digest_among count b n = cc e in
      let others : map (digest_among count a) ns ≡ map (digest_among count b) ns = cc e in
      let entries = same_value page_prefix_free (entries_among count a n) (entries_among count b n) (same_text (Contains texts) distinct _ _ (among_head _ _ texts p) (among_head _ _ texts q) first) in
      let rest = same_pages count a b ns (among_tail _ _ texts p) (among_tail _ _ texts q) others in
      λ i. entries i ∷ rest i

  -- and so it tells the items, if the entries of the pages are in the order of their keys
  same_sorted : (height count : ℕ) (a b : Items) → count ≡ 2 ^ height → 0 < count → AreAmong (sorted_texts count a) texts → AreAmong (sorted_texts count b) texts
      → AreAmong (inner_texts height (each_among count (digest_among count a))) texts → AreAmong (inner_texts height (each_among count (digest_among count b))) texts
      → root_of height (each_among count (digest_among count a)) ≡ root_of height (each_among count (digest_among count b)) → a ≡ b
  same_sorted height count a b size some p q r s e =
      let leaves = under_one_root height (each_among count (digest_among count a)) (each_among count (digest_among count b))
      (length-map-range_with_len (digest_among count a) 0 count ∙ size) (length-map-range_with_len (digest_among count b) 0 count ∙ size) r s e in
      same_among count some a b (same_pages count a b (range_with_len 0 count) p q leaves)

  -- and if they are in trees
  same_trees : (a b : Items) (ns : List ℕ) → AreAmong (flat_map (λ p. items_texts (page_items a p)) ns) texts → AreAmong (flat_map (λ p. items_texts (page_items b p)) ns) texts
      → map (page_digest_in layout.Tree a) ns ≡ map (page_digest_in layout.Tree b) ns → map (entries_among (pages_of Tree) a) ns ≡ map (entries_among (pages_of Tree) b) ns
  same_trees a b [] p q e = refl
  same_trees a b (n ∷ ns) p q e =
      let first : page_digest_in layout.Tree a n ≡ page_digest_in layout.Tree b n = cc e in
      let others : map (page_digest_in layout.Tree a) ns ≡ map (page_digest_in layout.Tree b) ns = cc e in
      let mine = items_texts (page_items a n) in
      let other = items_texts (page_items b n) in
      let page : page_items a n ≡ page_items b n = tells_items texts distinct (page_items a n) (page_items b n)
      (record { each = among_left mine (flat_map (λ p. items_texts (page_items a p)) ns) texts p }) (record { each = among_left other (flat_map (λ p. items_texts (page_items b p)) ns) texts q }) first in
      let here : entries_among (pages_of Tree) a n ≡ entries_among (pages_of Tree) b n = sym (entries-page_items a n) ∙ ap entries page ∙ entries-page_items b n in
      let rest = same_trees a b ns (among_right mine (flat_map (λ p. items_texts (page_items a p)) ns) texts p) (among_right other (flat_map (λ p. items_texts (page_items b p)) ns) texts q) others in
      λ i. here i ∷ rest i

  same_in_trees : (a b : Items) → AreAmong (page_texts Tree a) texts → AreAmong (page_texts Tree b) texts
      → AreAmong (inner_texts HEIGHT (page_digests Tree a)) texts → AreAmong (inner_texts HEIGHT (page_digests Tree b)) texts
      → root_by Tree a ≡ root_by Tree b → a ≡ b
  same_in_trees a b p q r s e =
      let count = pages_of Tree in
      let leaves = under_one_root HEIGHT (page_digests Tree a) (page_digests Tree b)
      (length-map-range_with_len (page_digest_in layout.Tree a) 0 count) (length-map-range_with_len (page_digest_in layout.Tree b) 0 count) r s e in
      same_among count (omega arith) a b (same_trees a b (range_with_len 0 count) p q leaves)

  -- a page and an inner node have two digests
  first_apart : (es : List (List ℕ × Item)) (node : InnerText) (pages nodes : List (List ℕ)) → AreAmong (page_text es ∷ pages) texts → AreAmong (inner_text node ∷ nodes) texts
      → digest (page_text es) ≡ digest (inner_text node) → ⊥
  first_apart es node pages nodes p q e =
      not_alike es node (same_text (Contains texts) distinct (page_text es) (inner_text node) (among_head (page_text es) pages texts p) (among_head (inner_text node) nodes texts q) e)

  -- two levels below the top of a tree over 256 pages there are inner nodes, and in the old one there are pages
  old_apart : (a : Items) (leaf : ℕ → List ℕ) → AreAmong (page_texts Old a) texts
      → AreAmong (inner_texts (height_of Old) (page_digests Old a)) texts → AreAmong (inner_texts HEIGHT (each_among 256 leaf)) texts
      → root_by Old a ≡ root_of HEIGHT (each_among 256 leaf) → ⊥
  unfolding root_of
  old_apart a leaf p r s e =
      let xs = page_digests Old a in
      let ys = each_among 256 leaf in
      let long : length ys ≡ 2 * 128 = length-map-range_with_len leaf 0 256 in
      let half : length (level ys) ≡ 2 * 64 = length_level 128 ys long in
      let above : AreAmong (inner_texts 7 (level ys)) texts = among_right (pair_texts ys) (inner_texts 7 (level ys)) texts s in
      let same : xs ≡ level (level ys) =
      same_leaves 6 xs (level (level ys)) (length-map-range_with_len (digest_among 64 a) 0 64) (length_level 64 (level ys) half) r
      (among_right (pair_texts (level ys)) (inner_texts 6 (level (level ys))) texts above)
      (same_only (levels 6 xs) (levels 8 ys) (length_levels 6 xs (length-map-range_with_len (digest_among 64 a) 0 64)) (length_levels 8 ys long) e) in
      let second : AreAmong (pair_texts (level ys)) texts = among_left (pair_texts (level ys)) (inner_texts 6 (level (level ys))) texts above in
      first_apart (entries_among 64 a 0) (record {
        left = digest (inner_text (record { left = leaf 0; right = leaf 1 }));
        right = digest (inner_text (record { left = leaf 2; right = leaf 3 }));
      }) (map (λ p. page_text (entries_among 64 a p)) (range_with_len 1 63)) (pair_texts (level (map leaf (range_with_len 4 252)))) p second (ap first_of same)

  -- no text of a tree is that of a page in the order of keys
  not_a_tree : (es : List (List ℕ × Item)) (tree : Shape (List ℕ) Item) → Contains texts (page_text es) → AreAmong (texts_of item_leaf tree) texts → digest (page_text es) ≡ hash_of item_leaf tree → ⊥
  unfolding digest page_text
  not_a_tree es none c p e = let same = distinct (page_text es) [] c (among_head [] [] texts p) e in absurd (cc same)
  not_a_tree es (one k v) c p e =
      let same = distinct (page_text es) (5 ∷ item_leaf k v) c (among_head (5 ∷ item_leaf k v) [] texts p) e in
      (let marks : ◌≡◌ {A = ℕ} 0 5 = cc same in cc marks)
  not_a_tree es (fork l r) c p e =
      let node = 1 ∷ (hash_of item_leaf l ++ hash_of item_leaf r) in
      let same = distinct (page_text es) node c (among_head node (texts_of item_leaf l ++ texts_of item_leaf r) texts p) e in
      (let marks : ◌≡◌ {A = ℕ} 0 1 = cc same in cc marks)

  -- the leaves of both trees over 256 pages are digests of pages
  tree_apart : (a b : Items) → AreAmong (page_texts Current a) texts → AreAmong (page_texts Tree b) texts
      → AreAmong (inner_texts HEIGHT (page_digests Current a)) texts → AreAmong (inner_texts HEIGHT (page_digests Tree b)) texts
      → root_by Current a ≡ root_by Tree b → ⊥
  tree_apart a b p q r s e =
      let leaves = under_one_root HEIGHT (page_digests Current a) (page_digests Tree b)
      (length-map-range_with_len (digest_among 256 a) 0 256) (length-map-range_with_len (page_digest_in layout.Tree b) 0 256) r s e in
      not_a_tree (entries_among 256 a 0) (map_tree path_bit path_bits (page_items b 0))
      (among_head (page_text (entries_among 256 a 0)) (map (λ n. page_text (entries_among 256 a n)) (range_with_len 1 255)) texts p)
      (among_left (items_texts (page_items b 0)) (flat_map (λ n. items_texts (page_items b n)) (range_with_len 1 255)) texts q)
      (ap first_of leaves)

  -- so it tells the form too
  pub same_store : (f g : Form) (a b : Items) → AreAmong (page_texts f a) texts → AreAmong (page_texts g b) texts
      → AreAmong (inner_texts (height_of f) (page_digests f a)) texts → AreAmong (inner_texts (height_of g) (page_digests g b)) texts
      → root_by f a ≡ root_by g b → (f ≡ g) × (a ≡ b)
  same_store Old Old a b p q r s e = (refl, same_sorted 6 64 a b refl (omega arith) p q r s e)
  same_store Current Current a b p q r s e = (refl, same_sorted 8 256 a b refl (omega arith) p q r s e)
  same_store Tree Tree a b p q r s e = (refl, same_in_trees a b p q r s e)
  same_store Old Current a b p q r s e = absurd (old_apart a (digest_among 256 b) p r s e)
  same_store Current Old a b p q r s e = absurd (old_apart b (digest_among 256 a) q s r (sym e))
  same_store Old Tree a b p q r s e = absurd (old_apart a (page_digest_in layout.Tree b) p r s e)
  same_store Tree Old a b p q r s e = absurd (old_apart b (page_digest_in layout.Tree a) q s r (sym e))
  same_store Current Tree a b p q r s e = absurd (tree_apart a b p q r s e)
  same_store Tree Current a b p q r s e = absurd (tree_apart b a q p s r (sym e))
