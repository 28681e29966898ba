-- What is shown of two pages, if nothing is or all is.
use Rattle.std.proofs.Common.{◌≡◌, ℕ, true, false, List, [], ◌∷◌, ◌++◌, refl, sym, ap, ◌∙◌, arith, subst}
use Rattle.std.specs.Prelude.{Contains}
use Rattle.std.specs.FinMap.{entries, same_entries_map}
use Rattle.items.specs.declared.item.Item.{Item}
use Rattle.items.specs.Map.{Items}
use Rattle.wire.specs.Item.{page_text}
use Rattle.wire.specs.ItemLaws.{page_prefix_free}
use Rattle.token.specs.Digest.{digest}
use Rattle.merkle.specs.Digest.{on_side}
use Rattle.merkle.specs.Laws.{TextsAreAmong}
use Rattle.merkle.proofs.DifferLemmas.{no_key, each_key}
use Rattle.item_tree.specs.Text.{path_entries}
use Rattle.item_tree.specs.Differing.{AreItemDifferences}
use Rattle.pages.specs.Layout.{digest_in}
use Rattle.pages.specs.Differing.{ArePagesTold, ArePageDifferences}
use Rattle.pages.specs.declared.layout.Layout.{Layout}
use Rattle.pages.specs.declared.layout.Layout.TheVariants.{Sorted, Tree}

only_text : (text : List ℕ) (texts : List (List ℕ)) → TextsAreAmong (text ∷ []) (Contains texts) → Contains texts text
only_text text texts h = h.each text (0, omega arith, refl)

-- sorted pages of one digest have the same items
same_sorted : (m n : Items) → digest_in Sorted m ≡ digest_in Sorted n → ArePagesTold Sorted m Sorted n → m ≡ n
unfolding digest
same_sorted m n e tells =
    let text : page_text (entries m) ≡ page_text (entries n) = tells.distinct _ _ (only_text _ tells.texts tells.old_among) (only_text _ tells.texts tells.new_among) e in
    same_entries_map m n (page_prefix_free.apart (entries m) (entries n) [] [] (ap (λ t. t ++ []) text)).0

-- the differences of trees are those of their pages
pub trees_differ : (front : ℕ) (m n : Items) (before now : List (List ℕ × Item)) → AreItemDifferences front m n before now → ArePageDifferences front Tree m Tree n before now
trees_differ front m n before now x =
    record {
      shown = x.shown;
      by_front = x.by_front;
      before_is = x.before_is;
      now_is = x.now_is;
      rest_is_same = λ tells. x.rest_is_same (record { texts = tells.texts; distinct = tells.distinct; old_among = tells.old_among; new_among = tells.new_among });
    }

pub none_differ : (front : ℕ) (m n : Items) (before now : List (List ℕ × Item)) → before ≡ [] → now ≡ [] → digest_in Sorted m ≡ digest_in Sorted n → ArePageDifferences front Sorted m Sorted n before now
none_differ front m n before now p q e =
    record {
      shown = λ k. false;
      by_front = λ k l h. refl;
      before_is = p ∙ sym (no_key (path_entries m));
      now_is = q ∙ sym (no_key (path_entries n));
      rest_is_same = λ tells. ap (λ o. on_side (λ k. true) (path_entries o)) (same_sorted m n e tells);
    }

pub all_differ : (front : ℕ) (l k : Layout) (m n : Items) (before now : List (List ℕ × Item)) → before ≡ path_entries m → now ≡ path_entries n → ArePageDifferences front l m k n before now
all_differ front l k m n before now p q =
    record {
      shown = λ key. true;
      by_front = λ a b h. refl;
      before_is = p ∙ sym (each_key (path_entries m));
      now_is = q ∙ sym (each_key (path_entries n));
      rest_is_same = λ tells. no_key (path_entries m) ∙ sym (no_key (path_entries n));
    }

-- the same of the same pages
pub moved_pages : (front : ℕ) (l l' : Layout) (m m' : Items) (k k' : Layout) (n n' : Items) (before now : List (List ℕ × Item)) → l ≡ l' → m ≡ m' → k ≡ k' → n ≡ n' → ArePageDifferences front l m k n before now
    → ArePageDifferences front l' m' k' n' before now
moved_pages front l l' m m' k k' n n' before now a b c d x =
    subst (λ i. ArePageDifferences front i m' k' n' before now) a
    (subst (λ i. ArePageDifferences front l i k' n' before now) b
    (subst (λ i. ArePageDifferences front l m i n' before now) c
    (subst (λ i. ArePageDifferences front l m k i before now) d x)))
