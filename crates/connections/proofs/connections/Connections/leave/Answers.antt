use Rattle.std.proofs.Common.{◌≡◌, false, List, Option, sym, subst}
use Rattle.connections.specs.Connection.{ConnectionView}
use Rattle.connections.specs.Connections.{ConnectionsView, IsConnections}
use Rattle.connections.specs.Slots.{is_here, HasSameOthers}
use Rattle.connections.proofs.AtLemmas.{left_at_keeps, left_gone, left_others}
use Rattle.connections.proofs.connections.Connections.leave.Goals as goal

pub invariant_of-self : goal.invariant_of-self
invariant_of-self c =
    let s = c.self.inside in
    let v : ConnectionsView = record { dialect = s.dialect; table = s.table.items; next = s.next; first = s.first; heard = s.history.heard; given = s.history.given; passed = s.history.passed; taken = s.taken.items; replied = s.replied.items } in
    subst (λ (table : List (Option ConnectionView)). IsConnections (record v { table = table })) (sym c.leave.ensures) (left_at_keeps v c.args.at c.self.invariant)

pub returns-clause-left : goal.returns-clause-left
returns-clause-left c =
    let s = c.self.inside in
    subst (λ (table : List (Option ConnectionView)). is_here c.args.at.number table c.args.at.key ≡ false) (sym c.leave.ensures) (left_gone c.args.at s.table.items)

pub returns-clause-same_others : goal.returns-clause-same_others
returns-clause-same_others c =
    let s = c.self.inside in
    subst (λ (v : ConnectionsView). HasSameOthers c.args.at.key v.table c.leave.new.table.items) c.self.view_is (subst (HasSameOthers c.args.at.key s.table.items) (sym c.leave.ensures) (left_others c.args.at s.table.items))
