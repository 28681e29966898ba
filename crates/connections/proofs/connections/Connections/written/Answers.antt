use Rattle.std.proofs.Common.{List, Option, sym, ap, ◌∙◌, subst}
use Rattle.connections.specs.Connection.{ConnectionView}
use Rattle.connections.specs.Connections.{ConnectionsView, IsConnections}
use Rattle.connections.specs.Slots.{written_at}
use Rattle.connections.proofs.OwedLemmas.{written_keeps}
use Rattle.connections.proofs.connections.Connections.written.Goals as goal

pub invariant_of-self : goal.invariant_of-self
invariant_of-self c =
    let s = c.self.inside in
    let v : ConnectionsView = record { dialect = s.dialect; table = s.table.items; next = s.next; first = s.first; heard = s.history.heard; given = s.history.given; passed = s.history.passed; taken = s.taken.items; replied = s.replied.items } in
    subst (λ (table : List (Option ConnectionView)). IsConnections (record v { table = table })) (sym c.written.ensures) (written_keeps v c.args.at c.args.count c.self.invariant)
