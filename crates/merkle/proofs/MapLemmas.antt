-- A tree, trimmed, is the tree of the map of its keys, in whatever order its entries are.
use Rattle.std.proofs.Common.{◌≡◌, ℕ, zero, suc, ◌+◌, ◌<◌, ◌≤◌, Bool, true, false, cond, not, List, [], ◌∷◌, ◌++◌, length, Some, None, refl, sym, ap, ◌∙◌, arith, append-nil}
use Rattle.std.specs.Prelude.{T, is_some}
use Rattle.std.specs.declared.cmp.Ordering.{Ordering}
use Rattle.std.specs.Ordering.{eq_by_cmp, is_eq}
use Rattle.std.specs.Cmp.{IsTotalOrder, tied_itself}
use Rattle.std.specs.FinMap.{entries, find, is_sorted, IsAntisymmetric, entries_sorted, same_map, insert, get-entries, get-from_entries, get-insert, from_entries}
use Rattle.std.specs.FinMap.Entries.{is_sorted-where_key, find-where_key, same_entries}
use Rattle.merkle.specs.Shape.{Shape, none, one, fork, pairs, AllOn, IsTrie, is_none, joined, trimmed, hash_of, digest_of}
use Rattle.merkle.specs.Digest.{on_side, fork_over, tree_of, texts_of, map_tree, map_digest, map_pairs, map_texts}
use Rattle.merkle.specs.Put.{IsPut}
use Rattle.merkle.proofs.FindLemmas.{equal_of, not_found, find_past, find_left, find_right}

module _ {K V : Type 0} (bit : K → ℕ → Bool) where
  -- the tree of two entries or more
  two_sides : (left depth : ℕ) (es : List (K × V)) → 2 ≤ length es
      → tree_of bit (suc left) depth es ≡ fork_over (tree_of bit left (suc depth) (on_side (λ k. not (bit k depth)) es)) (tree_of bit left (suc depth) (on_side (λ k. bit k depth) es))
  two_sides left depth [] h = absurd (omega arith)
  two_sides left depth (e ∷ []) h = absurd (omega arith)
  two_sides left depth (e ∷ f ∷ es) h = refl

  -- what is trimmed is empty only if it was
  same_none : (bits depth : ℕ) (s : Shape K V) → IsTrie bit bits depth s → is_none (trimmed s) ≡ is_none s
  same_none bits depth none st = refl
  same_none bits depth (one k v) st = refl
  same_none bits depth (fork none none) st = absurd (let h : 2 ≤ length {A = K × V} [] = st.1 in omega arith)
  same_none bits depth (fork none (one j w)) st = refl
  same_none bits depth (fork none (fork m n)) st = same_none bits (suc depth) (fork m n) st.5
  same_none bits depth (fork (one k v) none) st = refl
  same_none bits depth (fork (one k v) (one j w)) st = refl
  same_none bits depth (fork (one k v) (fork m n)) st = refl
  same_none bits depth (fork (fork l r) none) st = same_none bits (suc depth) (fork l r) st.4
  same_none bits depth (fork (fork l r) (one j w)) st = refl
  same_none bits depth (fork (fork l r) (fork m n)) st = refl

  trimmed_fork : (bits depth : ℕ) (l r : Shape K V) → IsTrie bit bits depth l → IsTrie bit bits depth r → trimmed (fork l r) ≡ fork_over (trimmed l) (trimmed r)
  trimmed_fork bits depth l r p q =
      λ i. joined (sym (same_none bits depth l p) i) (sym (same_none bits depth r q) i) (trimmed l) (trimmed r) (fork (trimmed l) (trimmed r))

-- what is trimmed has the same keys
pub pairs_trimmed : {K V : Type 0} (s : Shape K V) → pairs (trimmed s) ≡ pairs s
pairs_trimmed none = refl
pairs_trimmed (one k v) = refl
pairs_trimmed (fork none r) = pairs_trimmed r
pairs_trimmed (fork (one k v) none) = refl
pairs_trimmed (fork (one k v) (one j w)) = refl
pairs_trimmed (fork (one k v) (fork m n)) = ap (λ es. (k, v) ∷ es) (pairs_trimmed (fork m n))
pairs_trimmed (fork (fork l m) none) = pairs_trimmed (fork l m) ∙ sym (append-nil (pairs (fork l m)))
pairs_trimmed (fork (fork l m) (one j w)) = ap (λ es. es ++ (j, w) ∷ []) (pairs_trimmed (fork l m))
pairs_trimmed (fork (fork l m) (fork n r)) = λ i. pairs_trimmed (fork l m) i ++ pairs_trimmed (fork n r) i

-- no key comes twice
abbrev pub Unique : {K V : Type 0} → (K → K → Ordering) → List (K × V) → Type 0
Unique R [] = Unit {0}
Unique R (e ∷ es) = (find R e.0 es ≡ None) × Unique R es

module _ {K V : Type 0} {R : K → K → Ordering} (o : IsTotalOrder R) (same : IsAntisymmetric R) where
  unique_append : (test : K → Bool) (l r : List (K × V)) → AllOn test false l → AllOn test true r → Unique R l → Unique R r → Unique R (l ++ r)
  unique_append test [] r p q u v = v
  unique_append test (e ∷ l) r p q u v = (find_past same e.0 l r u.0 ∙ not_found same test true e.0 r q p.0, unique_append test l r p.1 q u.1 v)

  pub unique_pairs : (bit : K → ℕ → Bool) (bits depth : ℕ) (s : Shape K V) → IsTrie bit bits depth s → Unique R (pairs s)
  unique_pairs bit bits depth none st = tt
  unique_pairs bit bits depth (one k v) st = (refl, tt)
  unique_pairs bit bits depth (fork l r) st =
      unique_append (λ k. bit k depth) (pairs l) (pairs r) st.2 st.3 (unique_pairs bit bits (suc depth) l st.4) (unique_pairs bit bits (suc depth) r st.5)

  first_found : (e : K × V) (es : List (K × V)) → is_some (find R e.0 (e ∷ es)) ≡ true
  first_found e es = ap (λ r. is_some (cond (is_eq r) (Some e.1) (find R e.0 es))) (tied_itself o e.0)

  second_found : (e f : K × V) (es : List (K × V)) → is_some (find R f.0 (e ∷ f ∷ es)) ≡ true
  second_found e f es = elim (eq_by_cmp R f.0 e.0) as (λ b. is_some (cond b (Some e.1) (find R f.0 (f ∷ es))) ≡ true) [ true ↦ refl | false ↦ first_found f es ]

  only_key : (q : K) (e : K × V) → is_some (find R q (e ∷ [])) ≡ true → q ≡ e.0
  only_key q e h = same q e.0 (equal_of (R q e.0) (sym (told (eq_by_cmp R q e.0)) ∙ h))
    where
      told : (b : Bool) → is_some (cond b (Some e.1) None) ≡ b
      told true = refl
      told false = refl

  -- what is found in two or more entries is found in as many
  many : (xs es : List (K × V)) → Unique R xs → 2 ≤ length xs → ((q : K) → find R q es ≡ find R q xs) → 2 ≤ length es
  many [] es u h is = absurd (omega arith)
  many (x ∷ []) es u h is = absurd (omega arith)
  many (x ∷ y ∷ xs) [] u h is = absurd (let e : false ≡ true = ap is_some (is x.0) ∙ first_found x (y ∷ xs) in cc)
  many (x ∷ y ∷ xs) (e ∷ []) u h is =
      let first : x.0 ≡ e.0 = only_key x.0 e (ap is_some (is x.0) ∙ first_found x (y ∷ xs)) in
      let second : y.0 ≡ e.0 = only_key y.0 e (ap is_some (is y.0) ∙ second_found x y xs) in
      absurd (let twice : false ≡ true = sym (ap is_some u.0) ∙ (ap (λ k. is_some (find R k (y ∷ xs))) (first ∙ sym second) ∙ first_found y xs) in cc)
  many (x ∷ y ∷ xs) (e ∷ f ∷ es) u h is = omega arith

  left_finds : (test : K → Bool) (l r es : List (K × V)) → AllOn test false l → AllOn test true r → ((q : K) → find R q es ≡ find R q (l ++ r)) → (q : K) → find R q (on_side (λ k. not (test k)) es) ≡ find R q l
  left_finds test l r es p q is k =
      find-where_key R (λ x. not (test x)) k (λ x t. ap (λ x. not (test x)) (sym (same k x t))) es ∙ ap (λ o. cond (not (test k)) o None) (is k) ∙ by (test k) refl
    where
      by : (b : Bool) → test k ≡ b → cond (not b) (find R k (l ++ r)) None ≡ find R k l
      by true e = sym (not_found same test false k l p e)
      by false e = find_left same test k l r q e

  right_finds : (test : K → Bool) (l r es : List (K × V)) → AllOn test false l → AllOn test true r → ((q : K) → find R q es ≡ find R q (l ++ r)) → (q : K) → find R q (on_side test es) ≡ find R q r
  right_finds test l r es p q is k =
      find-where_key R test k (λ x t. ap test (sym (same k x t))) es ∙ ap (λ o. cond (test k) o None) (is k) ∙ by (test k) refl
    where
      by : (b : Bool) → test k ≡ b → cond b (find R k (l ++ r)) None ≡ find R k r
      by true e = find_right same test k l r p e
      by false e = sym (not_found same test true k r q e)

  same_at : (bit : K → ℕ → Bool) (bits left depth : ℕ) (s : Shape K V) (es : List (K × V)) → left + depth ≡ bits → IsTrie bit bits depth s → T (is_sorted R es) → ((q : K) → find R q es ≡ find R q (pairs s)) → trimmed s ≡ tree_of bit left depth es
  same_at bit bits left depth none es e st g is = ap (tree_of bit left depth) (sym (same_entries R o same es [] g tt is))
  same_at bit bits left depth (one k v) es e st g is = ap (tree_of bit left depth) (sym (same_entries R o same es ((k, v) ∷ []) g tt is))
  same_at bit bits zero depth (fork l r) es e st g is = absurd (let h : depth < bits = st.0 in omega arith)
  same_at bit bits (suc left) depth (fork l r) es e st g is =
      let test : K → Bool = λ k. bit k depth in
      let other : K → Bool = λ k. not (bit k depth) in
      let below : left + suc depth ≡ bits = omega arith in
      trimmed_fork bit bits (suc depth) l r st.4 st.5
      ∙ (λ i. fork_over
      (same_at bit bits left (suc depth) l (on_side other es) below st.4 (is_sorted-where_key R other es g) (left_finds test (pairs l) (pairs r) es st.2 st.3 is) i)
      (same_at bit bits left (suc depth) r (on_side test es) below st.5 (is_sorted-where_key R test es g) (right_finds test (pairs l) (pairs r) es st.2 st.3 is) i))
      ∙ sym (two_sides bit left depth es (many (pairs l ++ pairs r) es (unique_pairs bit bits depth (fork l r) st) st.1 is))

  pub same_map_digest : (text : K → V → List ℕ) (bit : K → ℕ → Bool) (bits : ℕ) (s : Shape K V) → IsTrie bit bits 0 s → digest_of text s ≡ map_digest text bit bits (from_entries {R = R} (pairs s))
  unfolding digest_of map_tree
  same_map_digest text bit bits s st =
      let m = from_entries {R = R} (pairs s) in
      ap (hash_of text) (same_at bit bits bits 0 s (entries m) (omega arith) st (entries_sorted m) (λ q. sym (get-entries m q) ∙ get-from_entries o (pairs s) q))

  pub same_map_texts : (text : K → V → List ℕ) (bit : K → ℕ → Bool) (bits : ℕ) (s : Shape K V) → IsTrie bit bits 0 s → texts_of text (trimmed s) ≡ map_texts text bit bits (from_entries {R = R} (pairs s))
  unfolding map_tree
  same_map_texts text bit bits s st =
      let m = from_entries {R = R} (pairs s) in
      ap (texts_of text) (same_at bit bits bits 0 s (entries m) (omega arith) st (entries_sorted m) (λ q. sym (get-entries m q) ∙ get-from_entries o (pairs s) q))

  pub same_map_pairs : (bit : K → ℕ → Bool) (bits : ℕ) (s : Shape K V) → IsTrie bit bits 0 s → pairs s ≡ map_pairs bit bits (from_entries {R = R} (pairs s))
  unfolding map_tree
  same_map_pairs bit bits s st =
      let m = from_entries {R = R} (pairs s) in
      sym (pairs_trimmed s) ∙ ap pairs (same_at bit bits bits 0 s (entries m) (omega arith) st (entries_sorted m) (λ q. sym (get-entries m q) ∙ get-from_entries o (pairs s) q))

  -- a put into the entries is an insert into the map
  pub put_inserts : (k : K) (v : V) (old new : List (K × V)) → IsPut R k v old new → from_entries {R = R} new ≡ insert (from_entries old) k v
  put_inserts k v old new is = same_map o same _ _ (λ q.
      get-from_entries o new q ∙ is.found q ∙ ap (cond (eq_by_cmp R q k) (Some v)) (sym (get-from_entries o old q)) ∙ sym (get-insert o (from_entries old) k v q))
