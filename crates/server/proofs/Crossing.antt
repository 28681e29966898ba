-- The service goes to the thread that works, with what it has said.
use denote.RattleType.{RattleType}
use denote.Struct.Declared.{shape}
use denote.Param.Send.{IsSend, sendable, recorded_send, struct_send}
use Rattle.std.proofs.Crossing.{crosses}
use Rattle.std.proofs.alloc.Global.TheSendSync as global
use Rattle.std.proofs.collections.VecDeque.TheSendSync as deque
use Rattle.std.proofs.vec.Vec.TheSendSync as vec
use Rattle.loop_messages.proofs.message.Said.TheSendSync as said
use Rattle.figures.proofs.histogram.Histogram.TheSendSync as histogram
use Rattle.service.proofs.Crossing.{service_send}
use Rattle.server.proofs.answering.Lost.TheSendSync as lost
use Rattle.server.specs.contracts.answering.Answering as answering
use Rattle.server.specs.contracts.durable.DurableService as durable

ruleset parts = (
  service_send,
  said.the_send,
  lost.the_send,
  lost.the_field_send,
  deque.the_send,
  vec.the_send,
  global.the_send,
  global.the_field_send,
  crosses,
)

pub answering_send : IsSend answering.the_row
answering_send = search (parts, sendable) depth 60 fits 20000

-- With where its record is saved, if that may go there, and what is held.
pub durable_send : (T : RattleType) → IsSend T → IsSend (durable.the_row T)
durable_send T s = recorded_send _ _ _ (durable.the_type T).to_one (struct_send (shape (durable.the_type T)) (global.the_field_send, (answering_send, (s, ((search (parts, sendable)), ((search (parts, sendable)), ((search (parts, sendable)), ((search (parts, sendable)), ((search (histogram.the_field_send, crosses, sendable)), tt)))))))))
