-- If texts have distinct digests, the digest of items tells them.
use Rattle.std.proofs.Common.{◌≡◌, ℕ, List, [], ◌++◌, ap}
use Rattle.std.specs.Cmp.Lexicographic.{nat_list_cmp_total}
use Rattle.items.specs.declared.item.Item.{Item}
use Rattle.wire.specs.KeyLaws.{key_prefix_free}
use Rattle.wire.specs.ItemLaws.{item_prefix_free}
use Rattle.wire.specs.Item.{item_text}
use Rattle.merkle.specs.ItemLeaf.{item_leaf}
use Rattle.merkle.specs.KeyPath.{path_bit, path_bits}
use Rattle.merkle.specs.Laws.{IsExact}
use Rattle.merkle.proofs.LawLemmas.{tells_maps}
use Rattle.item_tree.specs.Told.{TellsItems}
use Rattle.item_tree.specs.TextLaws.{only_equal}

pub exact : IsExact item_leaf
exact k l v w e =
    let first = key_prefix_free.apart k l (item_text v) (item_text w) e in
    (first.0, (item_prefix_free.apart v w [] [] (ap (λ t. t ++ []) first.1)).0)

pub tells_items : TellsItems
tells_items = tells_maps nat_list_cmp_total only_equal item_leaf path_bit path_bits exact
