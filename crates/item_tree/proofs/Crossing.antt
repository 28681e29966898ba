-- Trees of items go to other threads, and are shared by them.
use denote.Param.Send.{IsSend, IsSync, sendable}
use Rattle.std.proofs.Crossing.{crosses}
use Rattle.std.proofs.alloc.Global.TheSendSync as global
use Rattle.std.proofs.option.Option.TheSendSync as option
use Rattle.std.proofs.rt.Memory.TheSendSync as memory
use Rattle.std.proofs.sync.Arc.TheSendSync as arc
use Rattle.std.proofs.vec.Vec.TheSendSync as vec
use Rattle.base.proofs.entry.Entry.TheSendSync as entry
use Rattle.proto.proofs.block.Block.TheSendSync as block
use Rattle.proto.proofs.key.Key.TheSendSync as key
use Rattle.items.proofs.item.Item.TheSendSync as item
use Rattle.merkle.proofs.fork.Leaf.TheSendSync as leaf
use Rattle.merkle.proofs.fork.Tree.TheLaws.TheKnot as knot
use Rattle.item_tree.specs.contracts.store.ItemTree as tree

ruleset parts = (
  entry.the_send,
  entry.the_sync,
  option.the_field_send,
  option.the_send,
  option.the_field_sync,
  option.the_sync,
  memory.the_field_send,
  memory.the_send,
  memory.the_field_sync,
  memory.the_sync,
  item.the_field_send,
  item.the_send,
  item.the_field_sync,
  item.the_sync,
  leaf.the_field_send,
  leaf.the_send,
  leaf.the_field_sync,
  leaf.the_sync,
  block.the_send,
  block.the_sync,
  key.the_send,
  key.the_sync,
  arc.the_send,
  arc.the_sync,
  vec.the_send,
  vec.the_sync,
  global.the_field_send,
  global.the_send,
  global.the_field_sync,
  global.the_sync,
  crosses,
)

pub tree_send : IsSend tree.the_row
tree_send = first_of (search (parts, knot.crosses, sendable) depth 60 fits 20000, search (parts, knot.crosses_both, sendable) depth 60 fits 20000)

pub tree_sync : IsSync tree.the_row
tree_sync = first_of (search (parts, knot.crosses, sendable) depth 60 fits 20000, search (parts, knot.crosses_both, sendable) depth 60 fits 20000)
