-- The differences of two trees are those of their items.
use Rattle.std.proofs.Common.{◌≡◌, ℕ, Bool, not, List, sym, ap, ◌∙◌, subst}
use Rattle.std.specs.Prelude.{Contains}
use Rattle.std.specs.FinMap.{from_entries}
use Rattle.items.specs.declared.item.Item.{Item}
use Rattle.items.specs.Map.{Items, by_bytes}
use Rattle.merkle.specs.Laws.{TextsAreAmong}
use Rattle.merkle.specs.KeyPath.{path_bit, path_bits}
use Rattle.merkle.specs.ItemLeaf.{item_leaf}
use Rattle.merkle.specs.Digest.{on_side}
use Rattle.merkle.specs.Differing.{AreDifferences, AreMapsTold}
use Rattle.item_tree.specs.Told.{items_texts}
use Rattle.item_tree.specs.Text.{path_entries}
use Rattle.item_tree.specs.Differing.{AreItemsTold, AreItemDifferences}
use Rattle.item_tree.proofs.ToldLemmas.{exact}

told_maps : (m n old new : Items) → old ≡ m → new ≡ n → AreItemsTold m n → AreMapsTold item_leaf path_bit path_bits old new
told_maps m n old new p q tells =
    record {
      exact = exact;
      texts = tells.texts;
      distinct = tells.distinct;
      old_among = subst (λ (o : Items). TextsAreAmong (items_texts o) (Contains tells.texts)) (sym p) tells.old_among;
      new_among = subst (λ (o : Items). TextsAreAmong (items_texts o) (Contains tells.texts)) (sym q) tells.new_among;
    }

pub of_trees : (front : ℕ) (es fs before now : List (List ℕ × Item)) (m n : Items) → from_entries es ≡ m → from_entries fs ≡ n → es ≡ path_entries (from_entries es) → fs ≡ path_entries (from_entries fs)
    → AreDifferences path_bit front (AreMapsTold item_leaf path_bit path_bits (from_entries {R = by_bytes} es) (from_entries {R = by_bytes} fs)) es fs before now → AreItemDifferences front m n before now
of_trees front es fs before now m n p q olds news x =
    let old_is : es ≡ path_entries m = olds ∙ ap path_entries p in
    let new_is : fs ≡ path_entries n = news ∙ ap path_entries q in
    record {
      shown = x.shown;
      by_front = x.by_front;
      before_is = x.before_is ∙ ap (on_side x.shown) old_is;
      now_is = x.now_is ∙ ap (on_side x.shown) new_is;
      rest_is_same = λ tells. sym (ap (on_side (λ k. not (x.shown k))) old_is) ∙ x.rest_is_same (told_maps m n (from_entries es) (from_entries fs) p q tells) ∙ ap (on_side (λ k. not (x.shown k))) new_is;
    }
