-- What a store of pages has: those of a snapshot, these as they are written, or its own.
use Rattle.items.specs.Map.{Items}
use Rattle.pages.specs.declared.pages.Held.{Held}
use Rattle.pages.specs.declared.pages.Held.TheVariants.{Shared, Grouped, Own}

abbrev pub items_held : Held → Items
items_held (Shared snapshot) = snapshot.items
items_held (Grouped pages) = pages
items_held (Own pages) = pages
