use Rattle.std.proofs.Common.{rules, ◌≡◌, sym, subst, ap}
use Rattle.slab.specs.Slab.{with_value}
use Rattle.event_loop.specs.Socket.{SocketView}
use Rattle.event_loop.specs.Sockets.{SocketsView, IsGiven}
use Rattle.event_loop.proofs.SocketsLemmas.{given_here, entry_listed, entry_same}
use Rattle.event_loop.proofs.sockets.Sockets.give.Goals as goal

pub invariant_of-self : goal.invariant_of-self
invariant_of-self g c =
    entry_listed c.self.inside.all c.args.said.key c.in-Some.socket.now c.hear.new.self c.list.new.socket c.self.inside.visits c.list.new.self c.self.inside.next (sym c.in-Some.ensures.value) c.self.invariant
    (ap (λ (s : SocketView). s.number) c.hear.ensures.others) (ap (λ (s : SocketView). s.is_listed) c.hear.ensures.others) c.list.ensures

pub invariant_of-self-else-is_meant : goal.invariant_of-self-else-is_meant
invariant_of-self-else-is_meant g c = entry_same c.self.inside.all c.args.said.key c.in-Some.socket.now c.self.inside.visits c.self.inside.next (sym c.in-Some.ensures.value) c.self.invariant

pub returns-then-is_meant : goal.returns-then-is_meant
returns-then-is_meant g c =
    let same : c.in-Some.socket.now.number ≡ c.args.said.number = search rules in
    subst (λ (o : SocketsView). IsGiven o c.args.said (record { all = with_value c.self.inside.all c.args.said.key c.list.new.socket; visits = c.list.new.self; next = c.self.inside.next })) c.self.view_is
    (given_here (record { all = c.self.inside.all; visits = c.self.inside.visits; next = c.self.inside.next }) c.args.said c.in-Some.socket.now c.hear.new.self c.list.new.socket c.list.new.self (sym c.in-Some.ensures.value) same
    c.hear.ensures c.list.ensures.others)
