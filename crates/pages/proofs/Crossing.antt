-- Pages go to other threads, and are shared by them.
use denote.Param.Send.{IsSend, IsSync, sendable}
use Rattle.std.proofs.Crossing.{crosses}
use Rattle.std.proofs.alloc.Global.TheSendSync as global
use Rattle.std.proofs.option.Option.TheSendSync as option
use Rattle.std.proofs.sync.Arc.TheSendSync as arc
use Rattle.items.proofs.plain.PlainStore.TheSendSync as plain
use Rattle.token.proofs.digested.Digested.TheSendSync as digested
use Rattle.pages.proofs.tree.Tree.TheSendSync as roots
use Rattle.item_tree.proofs.Crossing.{tree_send, tree_sync}
use Rattle.pages.specs.contracts.page.Page as page

ruleset parts = (
  tree_send,
  tree_sync,
  plain.the_send,
  plain.the_sync,
  digested.the_send,
  digested.the_sync,
  roots.the_send,
  roots.the_sync,
  option.the_send,
  option.the_sync,
  option.the_field_send,
  option.the_field_sync,
  arc.the_send,
  arc.the_sync,
  global.the_send,
  global.the_sync,
  global.the_field_send,
  global.the_field_sync,
  crosses,
)

pub page_send : IsSend page.the_row
page_send = search (parts, sendable) depth 60 fits 20000

pub page_sync : IsSync page.the_row
page_sync = search (parts, sendable) depth 60 fits 20000
