use Rattle.std.proofs.Common.{◌≡◌, ℕ, sym, subst}
use Rattle.event_loop.specs.Socket.{SocketView}
use Rattle.event_loop.specs.Sockets.{VisitsView, IsEntry}
use Rattle.slab.specs.Slab.{get}
use Rattle.std.specs.Prelude.{Some}
use Rattle.event_loop.proofs.SocketsLemmas.{entry_roomy}
use Rattle.event_loop.proofs.sockets.Sockets.reserve.Goals as goal

pub invariant_of-self : goal.invariant_of-self
invariant_of-self g c = entry_roomy c.self.inside.all c.reserve.new.self _ c.self.inside.visits c.self.inside.next c.reserve.ensures.rest_kept c.self.invariant

pub invariant_of-self-2 : goal.invariant_of-self-2
invariant_of-self-2 g c =
    subst (λ (t : VisitsView). (k : ℕ) (x : SocketView) → get c.reserve.new.self k ≡ Some x → IsEntry k t c.self.inside.next x) (sym c.reserve-2.ensures)
    (entry_roomy c.self.inside.all c.reserve.new.self _ c.self.inside.visits c.self.inside.next c.reserve.ensures.rest_kept c.self.invariant)
