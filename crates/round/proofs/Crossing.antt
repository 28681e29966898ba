-- A round is shared by the threads that work on it.
use denote.RattleType.{RattleType}
use denote.Param.Send.{IsSend, IsSync, sendable}
use Rattle.std.proofs.Crossing.{crosses}
use Rattle.pages.proofs.Crossing.{page_send, page_sync}
use Rattle.round.specs.contracts.round.Round as whole_round
use Rattle.round.specs.declared.room.Room as room
use Rattle.atomic_table.proofs.owned.Table.TheSendSync as table
use Rattle.atomic_table.proofs.send_lease.SendLease.TheSendSync as sendlease
use Rattle.atomic_table.proofs.shared.Seat.TheSendSync as seat
use Rattle.std.proofs.rt.Memory.TheSendSync as memory
use Rattle.std.proofs.sync.Mutex.TheSendSync as mutex
use Rattle.item_steps.proofs.group.Steps.TheSendSync as item_steps_steps
use Rattle.item_steps.proofs.group.Task.TheSendSync as item_steps_task
use Rattle.item_steps.proofs.step.Answer.TheSendSync as item_steps_answer
use Rattle.item_steps.proofs.step.Stamp.TheSendSync as item_steps_stamp
use Rattle.item_steps.proofs.step.Step.TheSendSync as item_steps_step
use Rattle.items.proofs.item.Item.TheSendSync as items_item
use Rattle.proto.proofs.block.Block.TheSendSync as proto_block
use Rattle.proto.proofs.command.StoreVerb.TheSendSync as proto_storeverb
use Rattle.proto.proofs.command.Update.TheSendSync as proto_update
use Rattle.proto.proofs.key.Key.TheSendSync as proto_key
use Rattle.proto.proofs.reply.Found.TheSendSync as proto_found
use Rattle.proto.proofs.reply.Reply.TheSendSync as proto_reply
use Rattle.round.proofs.round.Master.TheSendSync as master
use Rattle.atomic_table.proofs.shared.Shared.TheSendSync as shared
use Rattle.round.proofs.rule.Counts.TheSendSync as counts
use Rattle.round.proofs.rule.Entry.TheSendSync as entry
use Rattle.round.proofs.rule.Held.TheSendSync as held
use Rattle.round.proofs.rule.View.TheSendSync as view
use Rattle.round.proofs.running.Running.TheSendSync as running
use Rattle.round.proofs.seat.Seat.TheSendSync as seat_2
use Rattle.round.proofs.word.TicketWord.TheSendSync as ticketword
use Rattle.std.proofs.sync.Arc.TheSendSync as arc
use Rattle.std.proofs.boxed.Box.TheSendSync as box
use Rattle.std.proofs.vec.Vec.TheSendSync as vec
use Rattle.base.proofs.entry.Entry.TheSendSync as base_entry
use Rattle.std.proofs.collections.LinkedList.TheSendSync as linkedlist
use Rattle.std.proofs.alloc.Global.TheSendSync as global
use Rattle.base.proofs.listed.Listed.TheSendSync as base_listed
use Rattle.std.proofs.marker.PhantomData.TheSendSync as phantomdata
use Rattle.std.proofs.option.Option.TheSendSync as option

ruleset parts = (
  page_send,
  page_sync,
  table.the_field_send,
  table.the_field_sync,
  table.the_send,
  table.the_sync,
  sendlease.the_send,
  sendlease.the_sync,
  seat.the_send,
  memory.the_field_send,
  memory.the_field_sync,
  memory.the_send,
  memory.the_sync,
  mutex.the_send,
  mutex.the_sync,
  item_steps_steps.the_send,
  item_steps_steps.the_sync,
  item_steps_task.the_field_send,
  item_steps_task.the_field_sync,
  item_steps_task.the_send,
  item_steps_task.the_sync,
  item_steps_answer.the_field_send,
  item_steps_answer.the_field_sync,
  item_steps_answer.the_send,
  item_steps_answer.the_sync,
  item_steps_stamp.the_field_send,
  item_steps_stamp.the_field_sync,
  item_steps_stamp.the_send,
  item_steps_stamp.the_sync,
  item_steps_step.the_field_send,
  item_steps_step.the_field_sync,
  item_steps_step.the_send,
  item_steps_step.the_sync,
  items_item.the_field_send,
  items_item.the_field_sync,
  items_item.the_send,
  items_item.the_sync,
  proto_block.the_send,
  proto_block.the_sync,
  proto_storeverb.the_field_send,
  proto_storeverb.the_field_sync,
  proto_storeverb.the_send,
  proto_storeverb.the_sync,
  proto_update.the_field_send,
  proto_update.the_field_sync,
  proto_update.the_send,
  proto_update.the_sync,
  proto_key.the_send,
  proto_key.the_sync,
  proto_found.the_field_send,
  proto_found.the_field_sync,
  proto_found.the_send,
  proto_found.the_sync,
  proto_reply.the_field_send,
  proto_reply.the_field_sync,
  proto_reply.the_send,
  proto_reply.the_sync,
  master.the_field_send,
  master.the_send,
  shared.the_send,
  shared.the_sync,
  counts.the_field_send,
  counts.the_field_sync,
  counts.the_send,
  counts.the_sync,
  entry.the_field_send,
  entry.the_field_sync,
  entry.the_send,
  entry.the_sync,
  held.the_field_send,
  held.the_field_sync,
  held.the_send,
  held.the_sync,
  view.the_field_send,
  view.the_field_sync,
  view.the_send,
  view.the_sync,
  running.the_send,
  running.the_sync,
  seat_2.the_send,
  ticketword.the_field_send,
  ticketword.the_field_sync,
  ticketword.the_send,
  ticketword.the_sync,
  arc.the_send,
  arc.the_sync,
  box.the_send,
  box.the_sync,
  vec.the_send,
  vec.the_sync,
  base_entry.the_send,
  base_entry.the_sync,
  linkedlist.the_send,
  linkedlist.the_sync,
  global.the_field_send,
  global.the_field_sync,
  global.the_send,
  global.the_sync,
  base_listed.the_send,
  base_listed.the_sync,
  phantomdata.the_field_send,
  phantomdata.the_field_sync,
  phantomdata.the_send,
  phantomdata.the_sync,
  option.the_field_send,
  option.the_field_sync,
  option.the_send,
  option.the_sync,
  crosses,
)

pub round_sync : (T : RattleType) (ghosts : room.Ghosts T.Denot) → IsSend T → IsSync T → IsSync (whole_round.the_row T ghosts)
round_sync T ghosts sends shares = search (parts, sendable) depth 60 fits 20000
