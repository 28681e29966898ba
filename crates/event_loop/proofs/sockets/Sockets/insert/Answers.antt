use Rattle.std.proofs.Common.{refl, subst}
use Rattle.std.specs.Prelude.{Some}
use Rattle.slab.specs.Slab.{Updates}
use Rattle.event_loop.specs.Socket.{SocketView}
use Rattle.event_loop.proofs.SocketsLemmas.{entry_roomy, entry_new}
use Rattle.event_loop.proofs.sockets.Sockets.insert.Goals as goal

pub invariant_of-self : goal.invariant_of-self
invariant_of-self g c = entry_roomy c.self.inside.all c.reserve.new.self _ c.self.inside.visits c.self.inside.next c.reserve.ensures.rest_kept c.self.invariant

pub invariant_of-self-2 : goal.invariant_of-self-2
invariant_of-self-2 g c =
    entry_new c.reserve.new.self c.insert_reserved.new.self c.insert_reserved.result c.self.inside.visits c.self.inside.next _ refl
    (subst (λ (s : SocketView). Updates c.reserve.new.self c.insert_reserved.new.self c.insert_reserved.result (Some s)) c.new.ensures c.insert_reserved.ensures.updates)
    (entry_roomy c.self.inside.all c.reserve.new.self _ c.self.inside.visits c.self.inside.next c.reserve.ensures.rest_kept c.self.invariant)
