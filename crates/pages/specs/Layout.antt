-- How the items of a page are kept, and its entries, its text and its digest.
use Rattle.std.specs.Prelude.{ℕ, List}
use Rattle.std.specs.FinMap.{entries}
use Rattle.items.specs.declared.item.Item.{Item}
use Rattle.items.specs.Map.{Items}
use Rattle.wire.specs.Item.{page_text}
use Rattle.token.specs.Digest.{digest}
use Rattle.item_tree.specs.Told.{items_digest}
use Rattle.item_tree.specs.Text.{path_entries, tree_text}
use Rattle.pages.specs.declared.layout.Layout.{Layout}
use Rattle.pages.specs.declared.layout.Layout.TheVariants.{Sorted, Tree}

abbrev pub entries_in : Layout → Items → List (List ℕ × Item)
entries_in Sorted m = entries m
entries_in Tree m = path_entries m

abbrev pub text_in : Layout → Items → List ℕ
text_in Sorted m = page_text (entries m)
text_in Tree m = tree_text m

-- from scratch
abbrev pub digest_in : Layout → Items → List ℕ
digest_in Sorted m = digest (page_text (entries m))
digest_in Tree m = items_digest m
