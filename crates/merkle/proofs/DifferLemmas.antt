-- What differs between the two sides of two forks differs between the forks.
use Rattle.std.proofs.Common.{◌≡◌, ℕ, ◌<◌, Bool, true, false, cond, not, List, [], ◌∷◌, ◌++◌, refl, sym, ap, ◌∙◌, subst, append-nil, append_assoc}
use Rattle.std.specs.Prelude.{Contains}
use Rattle.std.proofs.lemmas.List.Elements.{filter-append}
use Rattle.std.specs.declared.cmp.Ordering.{Ordering}
use Rattle.std.specs.Cmp.{IsTotalOrder}
use Rattle.std.specs.FinMap.{from_entries, IsAntisymmetric}
use Rattle.merkle.specs.Shape.{Shape, none, one, fork, pairs, AllOn, IsTrie, is_none, trimmed, digest_of}
use Rattle.merkle.specs.Digest.{on_side, texts_of, map_pairs}
use Rattle.merkle.specs.Laws.{TextsAreAmong}
use Rattle.merkle.specs.Differing.{AreDifferences, AreMapsTold, AreHashed, AreTreesTold, IsSameDigest, AreAppended, AreTreesAppended}
use Rattle.merkle.proofs.LawLemmas.{told, rest_among, left_among, right_among}
use Rattle.merkle.proofs.MapLemmas.{pairs_trimmed, same_map_texts, same_map_pairs}

-- tests that agree at these keys
agree : {K V : Type 0} (test p q : K → Bool) (side : Bool) → ((k : K) → test k ≡ side → p k ≡ q k) → (es : List (K × V)) → AllOn test side es → on_side p es ≡ on_side q es
agree test p q side same [] all = refl
agree test p q side same (e ∷ es) all = λ i. cond (same e.0 all.0 i) (e ∷ agree test p q side same es all.1 i) (agree test p q side same es all.1 i)

pub no_key : {K V : Type 0} (es : List (K × V)) → on_side (λ k. false) es ≡ []
no_key [] = refl
no_key (e ∷ es) = no_key es

pub each_key : {K V : Type 0} (es : List (K × V)) → on_side (λ k. true) es ≡ es
each_key [] = refl
each_key (e ∷ es) = ap (λ xs. e ∷ xs) (each_key es)

module _ {K V : Type 0} (text : K → V → List ℕ) (texts : List (List ℕ)) where
  hashed_left : (l r : Shape K V) → AreHashed text (fork l r) texts → AreHashed text l texts
  hashed_left none r h = λ e. absurd (cc e)
  hashed_left (one k v) none h = λ e. h refl
  hashed_left (one k v) (one j w) h = λ e. left_among (Contains texts) (texts_of text (one k v)) (texts_of text (one j w)) (rest_among (Contains texts) _ _ (h refl))
  hashed_left (one k v) (fork m n) h = λ e. left_among (Contains texts) (texts_of text (one k v)) (texts_of text (trimmed (fork m n))) (rest_among (Contains texts) _ _ (h refl))
  hashed_left (fork l m) none h = λ e. h refl
  hashed_left (fork l m) (one j w) h = λ e. left_among (Contains texts) (texts_of text (trimmed (fork l m))) (texts_of text (one j w)) (rest_among (Contains texts) _ _ (h refl))
  hashed_left (fork l m) (fork n r) h = λ e. left_among (Contains texts) (texts_of text (trimmed (fork l m))) (texts_of text (trimmed (fork n r))) (rest_among (Contains texts) _ _ (h refl))

  hashed_right : (l r : Shape K V) → AreHashed text (fork l r) texts → AreHashed text r texts
  hashed_right none r h = λ e. h refl
  hashed_right (one k v) none h = λ e. absurd (cc e)
  hashed_right (one k v) (one j w) h = λ e. right_among (Contains texts) (texts_of text (one k v)) (texts_of text (one j w)) (rest_among (Contains texts) _ _ (h refl))
  hashed_right (one k v) (fork m n) h = λ e. right_among (Contains texts) (texts_of text (one k v)) (texts_of text (trimmed (fork m n))) (rest_among (Contains texts) _ _ (h refl))
  hashed_right (fork l m) none h = λ e. absurd (cc e)
  hashed_right (fork l m) (one j w) h = λ e. right_among (Contains texts) (texts_of text (trimmed (fork l m))) (texts_of text (one j w)) (rest_among (Contains texts) _ _ (h refl))
  hashed_right (fork l m) (fork n r) h = λ e. right_among (Contains texts) (texts_of text (trimmed (fork l m))) (texts_of text (trimmed (fork n r))) (rest_among (Contains texts) _ _ (h refl))

module _ {K V : Type 0} (text : K → V → List ℕ) where
  told_left : (l r m n : Shape K V) → AreTreesTold text (fork l r) (fork m n) → AreTreesTold text l m
  told_left l r m n t =
      record { exact = t.exact; texts = t.texts; distinct = t.distinct; old_among = hashed_left text t.texts l r t.old_among; new_among = hashed_left text t.texts m n t.new_among }

  told_right : (l r m n : Shape K V) → AreTreesTold text (fork l r) (fork m n) → AreTreesTold text r n
  told_right l r m n t =
      record { exact = t.exact; texts = t.texts; distinct = t.distinct; old_among = hashed_right text t.texts l r t.old_among; new_among = hashed_right text t.texts m n t.new_among }

  -- trees of one digest have the same entries
  same_pairs : (s t : Shape K V) → IsSameDigest text s t → AreTreesTold text s t → pairs s ≡ pairs t
  unfolding digest_of
  same_pairs s t is tells =
      sym (pairs_trimmed s)
      ∙ ap pairs (told text tells.exact (Contains tells.texts) tells.distinct (trimmed s) (trimmed t) (tells.old_among is.has_old) (tells.new_among is.has_new) is.same)
      ∙ pairs_trimmed t

  -- nothing is shown of trees of one digest
  pub same_digest : (bit : K → ℕ → Bool) (front : ℕ) (s t : Shape K V) (before now : List (K × V)) → IsSameDigest text s t
      → AreAppended bit front (AreTreesTold text s t) (pairs s) (pairs t) before before now now
  same_digest bit front s t before now is =
      record {
        olds = [];
        news = [];
        more_is = sym (append-nil before);
        further_is = sym (append-nil now);
        differences = record {
          shown = λ k. false;
          by_front = λ k l h. refl;
          before_is = sym (no_key (pairs s));
          now_is = sym (no_key (pairs t));
          rest_is_same = λ tells. ap (on_side (λ k. true)) (same_pairs s t is tells);
        };
      }

  -- the same of the same trees
  pub moved : (bit : K → ℕ → Bool) (front : ℕ) (s t u v : Shape K V) (before more now further : List (K × V)) → s ≡ u → t ≡ v → AreTreesAppended text bit front s t before more now further
      → AreTreesAppended text bit front u v before more now further
  moved bit front s t u v before more now further p q x =
      subst (λ a. AreTreesAppended text bit front a v before more now further) p (subst (λ a. AreTreesAppended text bit front s a before more now further) q x)

-- all is shown
pub all_shown : {K V : Type 0} (bit : K → ℕ → Bool) (front : ℕ) (premise : Type 0) (old new before more now further : List (K × V)) → more ≡ before ++ old → further ≡ now ++ new
    → AreAppended bit front premise old new before more now further
all_shown bit front premise old new before more now further p q =
    record {
      olds = old;
      news = new;
      more_is = p;
      further_is = q;
      differences = record {
        shown = λ k. true;
        by_front = λ k l h. refl;
        before_is = sym (each_key old);
        now_is = sym (each_key new);
        rest_is_same = λ tells. no_key old ∙ sym (no_key new);
      };
    }

-- on the side of its bit what is shown there
abbrev shown_on : {K : Type 0} → (K → ℕ → Bool) → ℕ → (low high : K → Bool) → K → Bool
shown_on bit depth low high k = cond (bit k depth) (high k) (low k)

module _ {K V : Type 0} (bit : K → ℕ → Bool) (depth : ℕ) (low high : K → Bool) where
  -- entries of both sides that pass it
  both_sides : (l r : List (K × V)) → AllOn (λ k. bit k depth) false l → AllOn (λ k. bit k depth) true r → on_side (shown_on bit depth low high) (l ++ r) ≡ on_side low l ++ on_side high r
  both_sides l r p q =
      filter-append (λ e. shown_on bit depth low high e.0) l r
      ∙ (λ i. agree (λ k. bit k depth) (shown_on bit depth low high) low false (λ k e. ap (λ b. cond b (high k) (low k)) e) l p i
      ++ agree (λ k. bit k depth) (shown_on bit depth low high) high true (λ k e. ap (λ b. cond b (high k) (low k)) e) r q i)

  -- and those that do not
  both_rests : (l r : List (K × V)) → AllOn (λ k. bit k depth) false l → AllOn (λ k. bit k depth) true r
      → on_side (λ k. not (shown_on bit depth low high k)) (l ++ r) ≡ on_side (λ k. not (low k)) l ++ on_side (λ k. not (high k)) r
  both_rests l r p q =
      filter-append (λ e. not (shown_on bit depth low high e.0)) l r
      ∙ (λ i. agree (λ k. bit k depth) (λ k. not (shown_on bit depth low high k)) (λ k. not (low k)) false (λ k e. ap (λ b. not (cond b (high k) (low k))) e) l p i
      ++ agree (λ k. bit k depth) (λ k. not (shown_on bit depth low high k)) (λ k. not (high k)) true (λ k e. ap (λ b. not (cond b (high k) (low k))) e) r q i)

module _ {K V : Type 0} (text : K → V → List ℕ) (bit : K → ℕ → Bool) (bits front depth : ℕ) (l r m n : Shape K V) where
  differ_both : depth < front → IsTrie bit bits depth (fork l r) → IsTrie bit bits depth (fork m n) → (a b c d : List (K × V))
      → AreDifferences bit front (AreTreesTold text l m) (pairs l) (pairs m) a c → AreDifferences bit front (AreTreesTold text r n) (pairs r) (pairs n) b d
      → AreDifferences bit front (AreTreesTold text (fork l r) (fork m n)) (pairs l ++ pairs r) (pairs m ++ pairs n) (a ++ b) (c ++ d)
  differ_both lt st nt a b c d x y =
      record {
        shown = shown_on bit depth x.shown y.shown;
        by_front = λ k j h. λ i. cond (h depth lt i) (y.by_front k j h i) (x.by_front k j h i);
        before_is = (λ i. x.before_is i ++ y.before_is i) ∙ sym (both_sides bit depth x.shown y.shown (pairs l) (pairs r) st.2 st.3);
        now_is = (λ i. x.now_is i ++ y.now_is i) ∙ sym (both_sides bit depth x.shown y.shown (pairs m) (pairs n) nt.2 nt.3);
        rest_is_same = λ tells.
            both_rests bit depth x.shown y.shown (pairs l) (pairs r) st.2 st.3
            ∙ (λ i. x.rest_is_same (told_left text l r m n tells) i ++ y.rest_is_same (told_right text l r m n tells) i)
            ∙ sym (both_rests bit depth x.shown y.shown (pairs m) (pairs n) nt.2 nt.3);
      }

  -- the differences of both sides, one after the other
  pub both_shown : depth < front → IsTrie bit bits depth (fork l r) → IsTrie bit bits depth (fork m n) → (before more all now further full : List (K × V))
      → AreAppended bit front (AreTreesTold text l m) (pairs l) (pairs m) before more now further → AreAppended bit front (AreTreesTold text r n) (pairs r) (pairs n) more all further full
      → AreAppended bit front (AreTreesTold text (fork l r) (fork m n)) (pairs l ++ pairs r) (pairs m ++ pairs n) before all now full
  both_shown lt st nt before more all now further full x y =
      record {
        olds = x.olds ++ y.olds;
        news = x.news ++ y.news;
        more_is = y.more_is ∙ ap (λ es. es ++ y.olds) x.more_is ∙ append_assoc before x.olds y.olds;
        further_is = y.further_is ∙ ap (λ es. es ++ y.news) x.further_is ∙ append_assoc now x.news y.news;
        differences = differ_both lt st nt x.olds y.olds x.news y.news x.differences y.differences;
      }

module _ {K V : Type 0} {R : K → K → Ordering} (o : IsTotalOrder R) (same : IsAntisymmetric R) (bit : K → ℕ → Bool) (bits : ℕ) where
  -- the entries of a map are in the order of their paths
  pub in_order : (s : Shape K V) → IsTrie bit bits 0 s → (es : List (K × V)) → pairs s ≡ es → es ≡ map_pairs bit bits (from_entries {R = R} es)
  in_order s st es p = sym p ∙ same_map_pairs o same bit bits s st ∙ ap (λ fs. map_pairs bit bits (from_entries {R = R} fs)) p

  module _ (text : K → V → List ℕ) (s t : Shape K V) (st : IsTrie bit bits 0 s) (nt : IsTrie bit bits 0 t) where
    -- what the digests of maps tell, those of their trees tell
    told_trees : AreMapsTold text bit bits (from_entries {R = R} (pairs s)) (from_entries {R = R} (pairs t)) → AreTreesTold text s t
    told_trees tells =
        record {
          exact = tells.exact;
          texts = tells.texts;
          distinct = tells.distinct;
          old_among = λ e. subst (λ (ts : List (List ℕ)). TextsAreAmong ts (Contains tells.texts)) (sym (same_map_texts o same text bit bits s st)) tells.old_among;
          new_among = λ e. subst (λ (ts : List (List ℕ)). TextsAreAmong ts (Contains tells.texts)) (sym (same_map_texts o same text bit bits t nt)) tells.new_among;
        }

    of_pairs : (front : ℕ) (before more now further : List (K × V)) → before ≡ [] → now ≡ [] → AreTreesAppended text bit front s t before more now further
        → AreDifferences bit front (AreMapsTold text bit bits (from_entries {R = R} (pairs s)) (from_entries {R = R} (pairs t))) (pairs s) (pairs t) more further
    of_pairs front before more now further p q x =
        record {
          shown = x.differences.shown;
          by_front = x.differences.by_front;
          before_is = x.more_is ∙ ap (λ es. es ++ x.olds) p ∙ x.differences.before_is;
          now_is = x.further_is ∙ ap (λ es. es ++ x.news) q ∙ x.differences.now_is;
          rest_is_same = λ tells. x.differences.rest_is_same (told_trees tells);
        }

    -- the differences of trees are those of their maps
    pub of_maps : (front : ℕ) (before more now further es fs : List (K × V)) → before ≡ [] → now ≡ [] → pairs s ≡ es → pairs t ≡ fs → AreTreesAppended text bit front s t before more now further
        → AreDifferences bit front (AreMapsTold text bit bits (from_entries {R = R} es) (from_entries {R = R} fs)) es fs more further
    of_maps front before more now further es fs p q old_is new_is x =
        subst (λ (gs : List (K × V)). AreDifferences bit front (AreMapsTold text bit bits (from_entries {R = R} gs) (from_entries {R = R} fs)) gs fs more further) old_is
        (subst (λ (gs : List (K × V)). AreDifferences bit front (AreMapsTold text bit bits (from_entries {R = R} (pairs s)) (from_entries {R = R} gs)) (pairs s) gs more further) new_is
        (of_pairs front before more now further p q x))
