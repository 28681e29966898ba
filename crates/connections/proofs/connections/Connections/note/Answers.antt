use Rattle.std.proofs.Common.{sym, subst}
use Rattle.connections.specs.Connections.{ConnectionsView, IsConnections}
use Rattle.connections.proofs.KeepLemmas.{relogged}
use Rattle.connections.proofs.connections.Connections.note.Goals as goal

pub invariant_of-self : goal.invariant_of-self
invariant_of-self c =
    let s = c.self.inside in
    let v : ConnectionsView = record { dialect = s.dialect; table = s.table.items; next = s.next; first = s.first; heard = s.history.heard; given = s.history.given; passed = s.history.passed; taken = s.taken.items; replied = s.replied.items } in
    subst IsConnections (λ i. record v { heard = sym c.note.ensures.heard i; given = sym c.note.ensures.given i; passed = c.note.new.self.passed })
    (relogged v c.note.new.self.passed c.self.invariant)
