use Rattle.std.proofs.Common.{List, Option, None, Some, sym, ap, ◌∙◌, subst}
use Rattle.std.specs.Prelude.{IfNone}
use Rattle.connections.specs.Connection.{ConnectionView}
use Rattle.connections.specs.Connections.{ConnectionsView, IsConnections, AreBefore, AreReplied}
use Rattle.connections.specs.Owed.{IsTakenAt, HasNoneToTake}
use Rattle.connections.proofs.OwedLemmas.{took_at, none_to_take}
use Rattle.connections.proofs.AtLemmas.{takes_none, took_keeps, took_before, took_in_turn, took_text}
use Rattle.connections.proofs.connections.Connections.take.Goals as goal

if_none : {T : Type 0} (o : Option T) (P : Type 0) → P → IfNone o P
if_none None P p = p
if_none (Some x) P p = tt

pub invariant_of-self : goal.invariant_of-self
invariant_of-self c =
    let s = c.self.inside in
    let v : ConnectionsView = record { dialect = s.dialect; table = s.table.items; next = s.next; first = s.first; heard = s.history.heard; given = s.history.given; passed = s.history.passed; taken = s.taken.items; replied = s.replied.items } in
    subst (λ (table : List (Option ConnectionView)). IsConnections (record v { table = table })) (sym (takes_none c.args.at s.table.items c.take.new.table.items c.in_err-ready.ensures)) c.self.invariant

pub returns-in_err-ready-clause-none : goal.returns-in_err-ready-clause-none
returns-in_err-ready-clause-none c =
    let s = c.self.inside in
    let v : ConnectionsView = record { dialect = s.dialect; table = s.table.items; next = s.next; first = s.first; heard = s.history.heard; given = s.history.given; passed = s.history.passed; taken = s.taken.items; replied = s.replied.items } in
    if_none _ _ (ap (λ (table : List (Option ConnectionView)). record v { table = table }) (takes_none c.args.at s.table.items c.take.new.table.items c.in_err-ready.ensures) ∙ c.self.view_is)

pub invariant_of-self-2 : goal.invariant_of-self-2
invariant_of-self-2 c =
    let s = c.self.inside in
    let v : ConnectionsView = record { dialect = s.dialect; table = s.table.items; next = s.next; first = s.first; heard = s.history.heard; given = s.history.given; passed = s.history.passed; taken = s.taken.items; replied = s.replied.items } in
    took_keeps v c.args.at c.take.new.table.items c.in_ok-ready.ready c.and-self-inside.result.items c.self.invariant c.in_ok-ready.ensures c.and-self-inside.ensures

pub returns-clause-first : goal.returns-clause-first
returns-clause-first c =
    let s = c.self.inside in
    let v : ConnectionsView = record { dialect = s.dialect; table = s.table.items; next = s.next; first = s.first; heard = s.history.heard; given = s.history.given; passed = s.history.passed; taken = s.taken.items; replied = s.replied.items } in
    subst (λ (x : ConnectionsView). AreBefore x.taken c.args.at.number c.in_ok-ready.ready.turn) c.self.view_is
    (took_before v c.args.at c.take.new.table.items c.in_ok-ready.ready c.self.invariant c.in_ok-ready.ensures)

pub returns-clause-in_turn : goal.returns-clause-in_turn
returns-clause-in_turn c =
    let s = c.self.inside in
    let v : ConnectionsView = record { dialect = s.dialect; table = s.table.items; next = s.next; first = s.first; heard = s.history.heard; given = s.history.given; passed = s.history.passed; taken = s.taken.items; replied = s.replied.items } in
    subst (λ (x : ConnectionsView). AreReplied x.replied c.args.at.number c.in_ok-ready.ready.turn) c.self.view_is
    (took_in_turn v c.args.at c.take.new.table.items c.in_ok-ready.ready c.self.invariant c.in_ok-ready.ensures)

pub returns-clause-text : goal.returns-clause-text
returns-clause-text c =
    let s = c.self.inside in
    let v : ConnectionsView = record { dialect = s.dialect; table = s.table.items; next = s.next; first = s.first; heard = s.history.heard; given = s.history.given; passed = s.history.passed; taken = s.taken.items; replied = s.replied.items } in
    took_text v c.args.at c.take.new.table.items c.in_ok-ready.ready c.self.invariant c.in_ok-ready.ensures

pub returns-in_err-ready-clause-why : goal.returns-in_err-ready-clause-why
returns-in_err-ready-clause-why c =
    let s = c.self.inside in
    let v : ConnectionsView = record { dialect = s.dialect; table = s.table.items; next = s.next; first = s.first; heard = s.history.heard; given = s.history.given; passed = s.history.passed; taken = s.taken.items; replied = s.replied.items } in
    if_none _ _ (subst (λ (x : ConnectionsView). HasNoneToTake c.args.at x.table) c.self.view_is (none_to_take v c.args.at c.take.new.table.items c.self.invariant c.in_err-ready.ensures))

pub returns-clause-there : goal.returns-clause-there
returns-clause-there c =
    subst (λ (x : ConnectionsView). IsTakenAt c.args.at x.table c.take.new.table.items c.in_ok-ready.ready) c.self.view_is (took_at c.args.at c.self.inside.table.items c.take.new.table.items c.in_ok-ready.ready c.in_ok-ready.ensures)
