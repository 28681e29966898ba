-- What a page keeps of its items, in either layout.
use Rattle.items.specs.Map.{Items}
use Rattle.pages.specs.declared.layout.Layout.{Layout}
use Rattle.pages.specs.declared.layout.Layout.TheVariants.{Sorted, Tree}
use Rattle.pages.specs.declared.kept.Kept.{Kept}
use Rattle.pages.specs.declared.kept.Kept.TheVariants as kept

abbrev pub items_kept : Kept → Items
items_kept (kept.Sorted page) = page
items_kept (kept.Tree tree) = tree

abbrev pub layout_kept : Kept → Layout
layout_kept (kept.Sorted page) = Sorted
layout_kept (kept.Tree tree) = Tree
