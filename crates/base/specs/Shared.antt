-- What a shared list has, whether or not there was memory to share it.
use Rattle.std.specs.Prelude.{List}
use Rattle.std.specs.Arc.{arc_value}
use Rattle.base.specs.declared.shared_list.Held.{Held}
use Rattle.base.specs.declared.shared_list.Held.TheVariants.{Own, Shared}

module _ {T : Type 0} where
  abbrev pub elements_held : Held T → List T
  elements_held (Own items) = items.items
  elements_held (Shared items) = (arc_value items).items
