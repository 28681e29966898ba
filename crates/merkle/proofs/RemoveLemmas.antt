-- What a removal on one side of a fork is to the fork.
use Rattle.std.proofs.Common.{◌≡◌, ℕ, suc, ◌+◌, ◌≤◌, Bool, true, false, cond, List, [], ◌∷◌, ◌++◌, length, Option, Some, None, refl, sym, ap, ◌∙◌, subst, arith, length-append}
use Rattle.std.specs.declared.cmp.Ordering.{Ordering}
use Rattle.std.specs.declared.cmp.Ordering.TheVariants.{Equal}
use Rattle.std.specs.Prelude.{is_some}
use Rattle.std.specs.Ordering.{eq_by_cmp, is_eq}
use Rattle.std.specs.FinMap.{find, IsAntisymmetric, from_entries, get, remove, get-from_entries, get-remove, same_map}
use Rattle.std.specs.Cmp.{IsTotalOrder}
use Rattle.merkle.specs.Shape.{Shape, none, one, fork, pairs, AllOn, IsTrie}
use Rattle.merkle.specs.Remove.{IsRemoved, IsRemovedFrom, IsThinned, kind, ties_alone}
use Rattle.merkle.proofs.FindLemmas.{equal_of, not_found, find_left, find_right}
use Rattle.merkle.proofs.PutLemmas.{or_else, find_append, all_append, all_left, all_right}

pub none_of : {V : Type 0} (o : Option V) → is_some o ≡ false → o ≡ None
none_of None h = refl
none_of (Some v) h = cc

module _ {K V : Type 0} (bit : K → ℕ → Bool) (bits : ℕ) where
  -- a fork over two keys or more stays one
  pub two_of_kinds : (depth : ℕ) (l r : Shape K V) → IsTrie bit bits depth l → IsTrie bit bits depth r → 2 ≤ kind l + kind r → 2 ≤ length (pairs l ++ pairs r)
  two_of_kinds depth none none p q n = absurd (omega arith)
  two_of_kinds depth none (one k v) p q n = absurd (omega arith)
  two_of_kinds depth none (fork l r) p q n = q.1
  two_of_kinds depth (one k v) none p q n = absurd (omega arith)
  two_of_kinds depth (one k v) (one j w) p q n = omega arith
  two_of_kinds depth (one k v) (fork l r) p q n = (let two : 2 ≤ length (pairs l ++ pairs r) = q.1 in omega arith)
  two_of_kinds depth (fork l r) s p q n = (let two : 2 ≤ length (pairs l ++ pairs r) = p.1 in omega (arith, length-append (pairs l ++ pairs r) (pairs s)))

  pub small_trie : (depth : ℕ) (s : Shape K V) → kind s ≤ 1 → IsTrie bit bits depth s
  small_trie depth none e = tt
  small_trie depth (one k v) e = tt
  small_trie depth (fork l r) e = absurd (omega arith)

module _ {K V : Type 0} {R : K → K → Ordering} (same : IsAntisymmetric R) where
  pub gone_none : (k : K) → IsRemoved {V = V} R k [] []
  gone_none k = record { found = λ q. never (eq_by_cmp R q k); sides = λ test side all. all; count = refl }
    where
      never : (b : Bool) → None ≡ cond {A = Option V} b None None
      never true = refl
      never false = refl

  pub gone_leaf : (k : K) (e : K × V) → R k e.0 ≡ Equal → IsRemoved R k (e ∷ []) []
  gone_leaf k e tie =
      record {
        found = λ q. at (eq_by_cmp R q k) (eq_by_cmp R q e.0) (ap (λ x. eq_by_cmp R q x) (same k e.0 tie));
        sides = λ test side all. tt;
        count = ap (λ r. cond (is_some (cond (is_eq r) (Some e.1) None)) (0 + 1) 0) (sym tie);
      }
    where
      at : (a b : Bool) → a ≡ b → None ≡ cond a None (cond b (Some e.1) None)
      at true b is = refl
      at false b is = ap (λ x. cond x (Some e.1) None) is

  pub gone_other : (k : K) (e : K × V) → eq_by_cmp R k e.0 ≡ false → IsRemoved R k (e ∷ []) (e ∷ [])
  gone_other k e apart =
      record {
        found = λ q. at q (eq_by_cmp R q k) refl;
        sides = λ test side all. all;
        count = ap (λ b. cond (is_some (cond b (Some e.1) None)) (1 + 1) 1) (sym apart);
      }
    where
      at : (q : K) (b : Bool) → eq_by_cmp R q k ≡ b → find R q (e ∷ []) ≡ cond b None (find R q (e ∷ []))
      at q true is = ap (λ x. find R x (e ∷ [])) (same q k (equal_of _ is)) ∙ ap (λ b. cond b (Some e.1) None) apart
      at q false is = refl

  fewer_left : (o : Option V) (a b c : ℕ) → a ≡ cond (is_some o) (b + 1) b → a + c ≡ cond (is_some o) (b + c + 1) (b + c)
  fewer_left None a b c e = omega arith
  fewer_left (Some v) a b c e = omega arith

  fewer_right : (o : Option V) (a b c : ℕ) → a ≡ cond (is_some o) (b + 1) b → c + a ≡ cond (is_some o) (c + b + 1) (c + b)
  fewer_right None a b c e = omega arith
  fewer_right (Some v) a b c e = omega arith

  pub gone_left : (test : K → Bool) (k : K) (l m r : List (K × V)) → AllOn test true r → test k ≡ false → IsRemoved R k l m → IsRemoved R k (l ++ r) (m ++ r)
  gone_left test k l m r all on is =
      record {
        found = λ q. find_append R q m r ∙ ap (λ o. or_else o (find R q r)) (is.found q) ∙ through q (eq_by_cmp R q k) refl ∙ ap (cond (eq_by_cmp R q k) None) (sym (find_append R q l r));
        sides = λ test side all. all_append test side m r (is.sides test side (all_left test side l r all)) (all_right test side l r all);
        count = length-append l r ∙ fewer_left (find R k l) (length l) (length m) (length r) is.count
            ∙ (λ i. cond (is_some (sym (find_left same test k l r all on) i)) (sym (length-append m r) i + 1) (sym (length-append m r) i));
      }
    where
      through : (q : K) (b : Bool) → eq_by_cmp R q k ≡ b → or_else (cond b None (find R q l)) (find R q r) ≡ cond b None (or_else (find R q l) (find R q r))
      through q true h = not_found same test true q r all (ap test (same q k (equal_of _ h)) ∙ on)
      through q false h = refl

  pub gone_right : (test : K → Bool) (k : K) (l r s : List (K × V)) → AllOn test false l → test k ≡ true → IsRemoved R k r s → IsRemoved R k (l ++ r) (l ++ s)
  gone_right test k l r s all on is =
      record {
        found = λ q. find_append R q l s ∙ ap (or_else (find R q l)) (is.found q) ∙ through q (eq_by_cmp R q k) refl ∙ ap (cond (eq_by_cmp R q k) None) (sym (find_append R q l r));
        sides = λ test side all. all_append test side l s (all_left test side l r all) (is.sides test side (all_right test side l r all));
        count = length-append l r ∙ fewer_right (find R k r) (length r) (length s) (length l) is.count
            ∙ (λ i. cond (is_some (sym (find_right same test k l r all on) i)) (sym (length-append l s) i + 1) (sym (length-append l s) i));
      }
    where
      through : (q : K) (b : Bool) → eq_by_cmp R q k ≡ b → or_else (find R q l) (cond b None (find R q r)) ≡ cond b None (or_else (find R q l) (find R q r))
      through q true h = ap (λ o. or_else o None) (not_found same test false q l all (ap test (same q k (equal_of _ h)) ∙ on))
      through q false h = refl

  module _ (bit : K → ℕ → Bool) (bits : ℕ) where
    pub thin_left : (k : K) (depth : ℕ) (l m r : Shape K V) → bit k depth ≡ false → IsTrie bit bits depth (fork l r) → IsRemovedFrom R bit bits (depth + 1) k l m → IsThinned R bit bits depth k (fork l r) m r
    thin_left k depth l m r at old is =
        record {
          removed = gone_left (λ x. bit x depth) k (pairs l) (pairs m) (pairs r) old.3 at is.removed;
          within = old.0;
          lefts = is.removed.sides (λ x. bit x depth) false old.2;
          rights = old.3;
          left_trie = subst (λ (d : ℕ). IsTrie bit bits d m) (omega arith) is.trie;
          right_trie = old.5;
        }

    pub thin_right : (k : K) (depth : ℕ) (l r s : Shape K V) → bit k depth ≡ true → IsTrie bit bits depth (fork l r) → IsRemovedFrom R bit bits (depth + 1) k r s → IsThinned R bit bits depth k (fork l r) l s
    thin_right k depth l r s at old is =
        record {
          removed = gone_right (λ x. bit x depth) k (pairs l) (pairs r) (pairs s) old.2 at is.removed;
          within = old.0;
          lefts = old.2;
          rights = is.removed.sides (λ x. bit x depth) true old.3;
          left_trie = old.4;
          right_trie = subst (λ (d : ℕ). IsTrie bit bits d s) (omega arith) is.trie;
        }

    pub still_fork : (k : K) (depth : ℕ) (old l r : Shape K V) → IsThinned R bit bits depth k old l r → 2 ≤ kind l + kind r → IsRemovedFrom R bit bits depth k old (fork l r)
    still_fork k depth old l r is n =
        record { removed = is.removed; trie = (is.within, two_of_kinds bit bits (suc depth) l r is.left_trie is.right_trie n, is.lefts, is.rights, is.left_trie, is.right_trie) }

    pub few_left : (k : K) (depth : ℕ) (old l r s : Shape K V) → IsThinned R bit bits depth k old l r → pairs s ≡ pairs (fork l r) → kind s ≤ 1 → IsRemovedFrom R bit bits depth k old s
    few_left k depth old l r s is same_pairs few = record { removed = subst (IsRemoved R k (pairs old)) (sym same_pairs) is.removed; trie = small_trie bit bits depth s few }

  -- a removal from the entries is one from the map
  pub removal_removes : IsTotalOrder R → (k : K) (old new : List (K × V)) → IsRemoved R k old new → from_entries {R = R} new ≡ remove (from_entries old) k
  removal_removes o k old new is = same_map o same _ _ (λ q.
      get-from_entries o new q ∙ is.found q ∙ ap (cond (eq_by_cmp R q k) None) (sym (get-from_entries o old q)) ∙ sym (get-remove o (from_entries old) k q))

  -- a key that is not there is removed already
  pub absent_removed : IsTotalOrder R → (k : K) (es : List (K × V)) → find R k es ≡ None → from_entries {R = R} es ≡ remove (from_entries es) k
  absent_removed o k es absent = same_map o same _ _ (λ q.
      at q (eq_by_cmp R q k) refl ∙ sym (get-remove o (from_entries es) k q))
    where
      at : (q : K) (b : Bool) → eq_by_cmp R q k ≡ b → get (from_entries {R = R} es) q ≡ cond b None (get (from_entries {R = R} es) q)
      at q true is = get-from_entries o es q ∙ ap (λ x. find R x es) (same q k (equal_of _ is)) ∙ absent
      at q false is = refl

module _ {K V : Type 0} {R : K → K → Ordering} (same : IsAntisymmetric R) (bit : K → ℕ → Bool) (bits : ℕ) where
  -- at a leaf of the key
  pub leaf_goes : (k : K) (depth : ℕ) (s : Shape K V) → ties_alone R k s ≡ true → IsRemovedFrom R bit bits depth k s none
  leaf_goes k depth none e = cc
  leaf_goes k depth (one j v) e = record { removed = gone_leaf same k (j, v) (equal_of _ e); trie = tt }
  leaf_goes k depth (fork l r) e = cc

  -- and at another
  pub leaf_stays : (k : K) (depth : ℕ) (s : Shape K V) → ties_alone R k s ≡ false → kind s ≤ 1 → IsRemovedFrom R bit bits depth k s s
  leaf_stays k depth none e h = record { removed = gone_none same k; trie = tt }
  leaf_stays k depth (one j v) e h = record { removed = gone_other same k (j, v) e; trie = tt }
  leaf_stays k depth (fork l r) e h = absurd (omega arith)
