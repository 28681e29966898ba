-- Texts of pages that are in bytes.
use Rattle.std.proofs.Common.{◌≡◌, ℕ, suc, ◌<◌, List, ◌∷◌, ◌++◌, length, get_or, refl, ap, ◌∙◌, arith, subst, append_assoc}
use Rattle.std.specs.Prelude.{◌^◌, flat_map}
use Rattle.std.specs.Int.{w32}
use Rattle.std.specs.FinMap.{entries, entries_sorted, from_sorted, entries-from_sorted}
use Rattle.base.specs.declared.fault.Fault.{Fault}
use Rattle.base.proofs.MapLemmas.{as_t, from_t}
use Rattle.items.specs.declared.item.Item.{Item}
use Rattle.items.specs.Map.{Items, by_bytes}
use Rattle.wire.specs.Record.{NoPrefix, Refused, Always}
use Rattle.wire.specs.Number.{num}
use Rattle.wire.specs.Field.{list_text}
use Rattle.wire.specs.Item.{entry_text, page_text, EntriesFit}
use Rattle.wire.specs.NumberLaws.{below_of}
use Rattle.wire.proofs.Values.{Refused-weaker}
use Rattle.item_tree.specs.Text.{path_entries, tree_text, TreeFits}
use Rattle.item_tree.specs.TextLaws.{paths_count}
use Rattle.pages.specs.Page.{PageState}
use Rattle.pages.specs.Layout.{text_in}
use Rattle.pages.specs.Record.{page_record}
use Rattle.pages.specs.declared.layout.Layout.{Layout}
use Rattle.pages.specs.declared.layout.Layout.TheVariants.{Sorted, Tree}

abbrev pub AreBytes : List ℕ → Type 0
AreBytes bytes = (i : ℕ) → get_or bytes i 0 < 256

-- entries whose list is in bytes behind a mark have a count
count_fits : (mark : ℕ) (es : List (List ℕ × Item)) (bytes rest : List ℕ) → AreBytes bytes → bytes ≡ (mark ∷ list_text entry_text es) ++ rest → length es < 2 ^ 32
count_fits mark es bytes rest are e =
    let same : bytes ≡ mark ∷ (num w32 (length es) ++ (flat_map entry_text es ++ rest)) = e ∙ ap (λ (t : List ℕ). mark ∷ t) (append_assoc (num w32 (length es)) (flat_map entry_text es) rest) in
    let small = below_of w32 (length es) (num w32 (length es) ++ (flat_map entry_text es ++ rest)) (flat_map entry_text es ++ rest)
    (λ i. subst (λ (t : List ℕ). get_or t (suc i) 0 < 256) same (are (suc i))) refl in
    omega (arith, small)

entries_fit : (m : Items) (bytes rest : List ℕ) → AreBytes bytes → bytes ≡ page_text (entries m) ++ rest → EntriesFit (entries m)
unfolding page_text
entries_fit m bytes rest are e = record { page = count_fits 0 (entries m) bytes rest are e; rising = from_t _ (entries_sorted m) }

tree_fits : (m : Items) (bytes rest : List ℕ) → AreBytes bytes → bytes ≡ tree_text m ++ rest → TreeFits m
unfolding tree_text
tree_fits m bytes rest are e = (let few = count_fits 6 (path_entries m) bytes rest are e in omega (arith, few, paths_count m))

-- the map of rising entries has those entries
pub of_entries : (es : List (List ℕ × Item)) → EntriesFit es → entries (from_sorted {R = by_bytes} es) ≡ es
of_entries es fit = entries-from_sorted by_bytes es (as_t _ fit.rising)

module _ (bytes : List ℕ) where
  -- no page of this layout is there
  abbrev pub NoneIn : Layout → Type 0
  NoneIn layout = NoPrefix {X = PageState} (λ page. page.layout ≡ layout) page_record bytes

  pub none_sorted : AreBytes bytes → (e : Fault) → Refused e (NoPrefix EntriesFit page_text bytes) → Refused e (NoneIn Sorted)
  none_sorted are e = Refused-weaker e (λ none. record {
    none = λ v after laid same.
        let here : bytes ≡ page_text (entries v.items) ++ after = same ∙ ap (λ l. text_in l v.items ++ after) laid in
        none.none (entries v.items) after (entries_fit v.items bytes after are here) here;
  })

  pub none_tree : AreBytes bytes → (e : Fault) → Refused e (NoPrefix TreeFits tree_text bytes) → Refused e (NoneIn Tree)
  none_tree are e = Refused-weaker e (λ none. record {
    none = λ v after laid same.
        let here : bytes ≡ tree_text v.items ++ after = same ∙ ap (λ l. text_in l v.items ++ after) laid in
        none.none v.items after (tree_fits v.items bytes after are here) here;
  })

  pub none_of_both : NoneIn Sorted → (e : Fault) → Refused e (NoneIn Tree) → Refused e (NoPrefix {X = PageState} Always page_record bytes)
  none_of_both sorted e = Refused-weaker e (λ (tree : NoneIn Tree). record { none = λ v after f same. by v.layout tree v after refl same })
    where
      by : (l : Layout) → NoneIn Tree → (v : PageState) (after : List ℕ) → v.layout ≡ l → bytes ≡ page_record v ++ after → ⊥
      by Sorted tree v after laid same = sorted.none v after laid same
      by Tree tree v after laid same = tree.none v after laid same
