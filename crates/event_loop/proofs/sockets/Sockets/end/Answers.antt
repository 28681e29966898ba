use Rattle.std.proofs.Common.{◌≡◌, true, sym, ◌∙◌, ap}
use Rattle.slab.specs.Slab.{get}
use Rattle.event_loop.specs.Socket.{SocketView}
use Rattle.event_loop.specs.Sockets.{SocketsView, IsSameButListed}
use Rattle.event_loop.proofs.SocketsLemmas.{put_here, entry_listed, entry_same}
use Rattle.event_loop.proofs.sockets.Sockets.end.Goals as goal

pub invariant_of-self : goal.invariant_of-self
invariant_of-self g c =
    entry_listed c.self.inside.all c.args.key c.in-Some.socket.now c.end.new.self c.list.new.socket c.self.inside.visits c.list.new.self c.self.inside.next (sym c.in-Some.ensures.value) c.self.invariant
    (ap (λ (s : SocketView). s.number) c.end.ensures) (ap (λ (s : SocketView). s.is_listed) c.end.ensures) c.list.ensures

pub invariant_of-self-else-is_meant : goal.invariant_of-self-else-is_meant
invariant_of-self-else-is_meant g c = entry_same c.self.inside.all c.args.key c.in-Some.socket.now c.self.inside.visits c.self.inside.next (sym c.in-Some.ensures.value) c.self.invariant

pub returns-then-is_meant-clause-ends : goal.returns-then-is_meant-clause-ends
returns-then-is_meant-clause-ends g c s e n =
    put_here c.self.inside.all c.args.key c.in-Some.socket.now (sym c.in-Some.ensures.value) (λ a b. IsSameButListed (record a { has_ended = true }) b) c.list.new.socket
    (c.list.ensures.others ∙ ap (λ (x : SocketView). record x { is_listed = c.list.new.socket.is_listed }) c.end.ensures) s (ap (λ (v : SocketsView). get v.all c.args.key) c.self.view_is ∙ e)
