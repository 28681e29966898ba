use Rattle.std.proofs.Common.{rules, ◌≡◌, true, ℕ, List, [], ◌∷◌, ◌++◌, sym, ap, ◌∙◌, subst}
use Rattle.connections.specs.Slots.{is_here}
use Rattle.connections.specs.Connections.{ConnectionsView, IsConnections}
use Rattle.connections.proofs.AtLemmas.{told_at_keeps}
use Rattle.connections.specs.Told.{IsToldAt}
use Rattle.connections.proofs.ToldLemmas.{left_told, dropped_told}
use Rattle.connections.proofs.KeepLemmas.{relogged}
use Rattle.connections.proofs.connections.Connections.drop_out.Goals as goal

pub invariant_of-self : goal.invariant_of-self
invariant_of-self c =
    let s = c.self.inside in
    let v : ConnectionsView = record { dialect = s.dialect; table = s.table.items; next = s.next; first = s.first; heard = s.history.heard; given = s.history.given; passed = s.history.passed; taken = s.taken.items; replied = s.replied.items } in
    let here : is_here c.args.at.number s.table.items c.args.at.key ≡ true = search rules in
    subst IsConnections (λ i. record v { table = c.leave.new.table.items; heard = sym c.give.ensures.heard i; given = c.give.new.self.given; passed = c.give.new.self.passed })
    (relogged _ c.give.new.self.passed (told_at_keeps v c.args.at c.leave.new.table.items c.give.new.self.given c.self.invariant here c.leave.ensures
    (c.give.ensures.given ∙ ap (λ (bytes : List ℕ). s.history.given ++ (c.args.at.number, bytes) ∷ []) c.last-said.ensures.bytes)))

pub returns-clause-fails : goal.returns-clause-fails
returns-clause-fails c =
    let s = c.self.inside in
    let v : ConnectionsView = record { dialect = s.dialect; table = s.table.items; next = s.next; first = s.first; heard = s.history.heard; given = s.history.given; passed = s.history.passed; taken = s.taken.items; replied = s.replied.items } in
    let here : is_here c.args.at.number s.table.items c.args.at.key ≡ true = search rules in
    let said = c.last-said.ensures in
    left_told v c.args.at c.leave.new.table.items c.last-said.result here c.leave.ensures said.bytes said.closes said.waits

pub returns-clause-told : goal.returns-clause-told
returns-clause-told c =
    let s = c.self.inside in
    let v : ConnectionsView = record { dialect = s.dialect; table = s.table.items; next = s.next; first = s.first; heard = s.history.heard; given = s.history.given; passed = s.history.passed; taken = s.taken.items; replied = s.replied.items } in
    let here : is_here c.args.at.number s.table.items c.args.at.key ≡ true = search rules in
    let said = c.last-said.ensures in
    subst (λ (x : ConnectionsView). IsToldAt c.args.at x.table c.leave.new.table.items c.last-said.result) c.self.view_is
    (dropped_told v c.args.at c.leave.new.table.items c.last-said.result here c.leave.ensures said.key said.number (left_told v c.args.at c.leave.new.table.items c.last-said.result here c.leave.ensures said.bytes said.closes said.waits))
