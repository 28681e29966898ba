use Rattle.std.proofs.Common.{◌≡◌, List, Option, refl, sym, ap, ◌∙◌, subst}
use Rattle.connections.specs.declared.slots.ConnectionId.{ConnectionId}
use Rattle.connections.specs.Connection.{ConnectionView}
use Rattle.connections.specs.Connections.{ConnectionsView}
use Rattle.connections.specs.Slots.{is_untaken_in, left_at}
use Rattle.service.specs.declared.note.Waiting.{Waiting}
use Rattle.service.specs.Owed.{Remembers, queue_with}
use Rattle.service.proofs.OwedLemmas.{replied_remembers, leaves_remembers}
use Rattle.loop_messages.specs.declared.message.Said.{Said}
use Rattle.service.specs.Told.{MayTell}
use Rattle.service.proofs.ToldLemmas.{may_tell, left_tells}
use Rattle.service.proofs.working.answer_to.Goals as goal

abbrev Table : Type 0
Table = List (Option ConnectionView)

pub returns-then-not-has_room_for_one-clause-remembers : goal.returns-then-not-has_room_for_one-clause-remembers
returns-then-not-has_room_for_one-clause-remembers c = λ pool pool_now ends r.
    let o = c.args.outstanding.now in
    let table = c.args.connections.now.table in
    let asker : ConnectionId = record { key = o.key; number = o.assignment.connection } in
    let left : c.leave.new.self.table ≡ left_at asker table = ap (λ (v : ConnectionsView). v.table) c.leave.ensures.table ∙ (λ i. left_at (record { key = c.connection_id-at.ensures.key i; number = c.connection_id-at.ensures.number i }) table) in
    subst (λ (queue : List Waiting). Remembers queue pool_now c.leave.new.self.table) (sym c.has_room_for_one.ensures.queue)
    (leaves_remembers c.args.queue.now.items pool pool_now o ends table c.leave.new.self.table left r)

pub returns-clause-remembers : goal.returns-clause-remembers
returns-clause-remembers c = λ pool pool_now ends r.
    let o = c.args.outstanding.now in
    let queue = c.args.queue.now.items in
    let now = c.give_reply.new.connections.table in
    let w : Waiting = record { at = record { key = o.key; number = o.assignment.connection }; since = c.args.since } in
    let joins : c.enqueue.new.queue.items ≡ queue_with (is_untaken_in o.assignment.connection now o.key) queue w = c.enqueue.ensures
    ∙ (λ i. queue_with (is_untaken_in (c.connection_id-at.ensures.number i) now (c.connection_id-at.ensures.key i)) (c.has_room_for_one.ensures.queue i) (record { at = record { key = c.connection_id-at.ensures.key i; number = c.connection_id-at.ensures.number i }; since = c.args.since })) in
    subst (λ (l : List Waiting). Remembers l pool_now now) (sym joins)
    (replied_remembers queue pool pool_now o ends c.args.connections.now.table now w refl c.give_reply.ensures.table r)

pub returns-then-not-has_room_for_one-clause-tells : goal.returns-then-not-has_room_for_one-clause-tells
returns-then-not-has_room_for_one-clause-tells c =
    let table = c.args.connections.now.table in
    let left : c.leave.new.self.table ≡ left_at c.connection_id-at.result table = ap (λ (v : ConnectionsView). v.table) c.leave.ensures.table in
    left_tells c.connection_id-at.result table c.leave.new.self.table c.args.refused.now c.refuse.new.refused c.args.said.now.items c.has_room_for_one.new.said.items left c.has_room_for_one.ensures.said c.refuse.ensures.more

pub returns-clause-tells : goal.returns-clause-tells
returns-clause-tells c =
    let o = c.args.outstanding.now in
    let asker : ConnectionId = record { key = o.key; number = o.assignment.connection } in
    let old = c.args.connections.now.table in
    let now = c.give_reply.new.connections.table in
    may_tell asker old now c.args.refused.now c.args.refused.now c.args.said.now.items c.give_reply.new.said.items
    (subst (λ (said : List Said). MayTell asker old now said c.give_reply.new.said.items) c.has_room_for_one.ensures.said c.give_reply.ensures.told)
