-- No text of a page is a prefix of another.
use Rattle.std.proofs.Common.{◌≡◌, ℕ, List, ◌++◌, refl, sym, ap, ◌∙◌}
use Rattle.std.specs.FinMap.{entries, from_sorted, same_entries_map, entries-from_sorted, entries_sorted}
use Rattle.items.specs.Map.{Items, by_bytes}
use Rattle.wire.specs.Record.{IsPrefixFree}
use Rattle.wire.specs.ItemLaws.{page_prefix_free}
use Rattle.wire.specs.RowLaws.{made_of}
use Rattle.item_tree.specs.TextLaws.{tree_prefix_free}
use Rattle.wire.specs.FrontLaws.{head_of}
use Rattle.wire.specs.Item.{page_text}
use Rattle.item_tree.specs.Text.{tree_text}
use Rattle.pages.specs.Page.{Laid}
use Rattle.pages.specs.Record.{laid_record}
use Rattle.pages.specs.Layout.{text_in}
use Rattle.pages.specs.declared.layout.Layout.{Layout}
use Rattle.pages.specs.declared.layout.Layout.TheVariants.{Sorted, Tree}

together : (m : Items) → from_sorted (entries m) ≡ m
together m = same_entries_map (from_sorted (entries m)) m (entries-from_sorted by_bytes (entries m) (entries_sorted m))

pub text_prefix_free : (layout : Layout) → IsPrefixFree (text_in layout)
text_prefix_free Sorted = made_of page_prefix_free (text_in Sorted) entries from_sorted together (λ m. refl)
text_prefix_free Tree = tree_prefix_free

-- the first byte of a text tells its layout
abbrev pub layout_mark : Layout → ℕ
layout_mark Sorted = 0
layout_mark Tree = 6

pub begins : (layout : Layout) (m : Items) (rest : List ℕ) → head_of (text_in layout m ++ rest) ≡ layout_mark layout
unfolding page_text tree_text
begins Sorted m rest = refl
begins Tree m rest = refl

-- of whatever layouts
pub laid_record_free : IsPrefixFree laid_record
laid_record_free = record { apart = apart }
  where
    laid : Layout → Items → Laid
    laid l m = record { items = m; layout = l }

    of_one : (l : Layout) (m n : Items) (r s : List ℕ) → text_in l m ++ r ≡ text_in l n ++ s → (laid l m ≡ laid l n) × (r ≡ s)
    of_one l m n r s e =
        let both = (text_prefix_free l).apart m n r s e in
        (ap (laid l) both.0, both.1)

    clash : (l k : Layout) (m n : Items) (r s : List ℕ) → text_in l m ++ r ≡ text_in k n ++ s → layout_mark l ≡ layout_mark k
    clash l k m n r s e = sym (begins l m r) ∙ ap head_of e ∙ begins k n s

    by : (l k : Layout) (m n : Items) (r s : List ℕ) → text_in l m ++ r ≡ text_in k n ++ s → (laid l m ≡ laid k n) × (r ≡ s)
    by Sorted Sorted m n r s e = of_one Sorted m n r s e
    by Tree Tree m n r s e = of_one Tree m n r s e
    by Sorted Tree m n r s e = absurd (let marks : 0 ≡ 6 = clash Sorted Tree m n r s e in cc)
    by Tree Sorted m n r s e = absurd (let marks : 6 ≡ 0 = clash Tree Sorted m n r s e in cc)

    apart : (v w : Laid) (r s : List ℕ) → laid_record v ++ r ≡ laid_record w ++ s → (v ≡ w) × (r ≡ s)
    apart v w r s e = by v.layout w.layout v.items w.items r s e
