use Rattle.std.proofs.Common.{rules, ◌≡◌, true, sym, ap, ◌∙◌, subst}
use Rattle.connections.specs.Slots.{is_here}
use Rattle.connections.specs.Connections.{ConnectionsView, IsConnections}
use Rattle.connections.proofs.AtLemmas.{answered_at_keeps, answer_leaves}
use Rattle.connections.specs.Owed.{AnswersOn, BecomesAt}
use Rattle.connections.proofs.OwedLemmas.{answers_at}
use Rattle.connections.specs.Told.{IsToldAt, IsAnsweredAt}
use Rattle.connections.proofs.ToldLemmas.{answered_at, answered_told}
use Rattle.connections.proofs.KeepLemmas.{relogged}
use Rattle.connections.proofs.connections.Connections.answer.Goals as goal

pub invariant_of-self-2 : goal.invariant_of-self-2
invariant_of-self-2 c =
    let s = c.self.inside in
    let v : ConnectionsView = record { dialect = s.dialect; table = s.table.items; next = s.next; first = s.first; heard = s.history.heard; given = s.history.given; passed = s.history.passed; taken = s.taken.items; replied = s.replied.items } in
    let here : is_here c.args.at.number s.table.items c.args.at.key ≡ true = search rules in
    subst IsConnections (λ i. record v { table = c.answer.new.table.items; heard = sym c.give.ensures.heard i; given = c.give.new.self.given; passed = c.give.new.self.passed; replied = c.and-self-inside.result.items })
    (relogged _ c.give.new.self.passed (answered_at_keeps v c.args.at c.args.turn c.args.reply c.answer.new.table.items c.in_ok-said.said c.give.new.self.given c.and-self-inside.result.items c.self.invariant here c.in_ok-said.ensures
    c.give.ensures.given c.and-self-inside.ensures))

pub returns-clause-closes : goal.returns-clause-closes
returns-clause-closes c =
    let s = c.self.inside in
    let v : ConnectionsView = record { dialect = s.dialect; table = s.table.items; next = s.next; first = s.first; heard = s.history.heard; given = s.history.given; passed = s.history.passed; taken = s.taken.items; replied = s.replied.items } in
    let here : is_here c.args.at.number s.table.items c.args.at.key ≡ true = search rules in
    answer_leaves v c.args.at c.args.turn c.args.reply c.answer.new.table.items c.in_ok-said.said here c.in_ok-said.ensures

pub returns-clause-answers : goal.returns-clause-answers
returns-clause-answers c =
    let s = c.self.inside in
    let v : ConnectionsView = record { dialect = s.dialect; table = s.table.items; next = s.next; first = s.first; heard = s.history.heard; given = s.history.given; passed = s.history.passed; taken = s.taken.items; replied = s.replied.items } in
    let here : is_here c.args.at.number s.table.items c.args.at.key ≡ true = search rules in
    subst (λ (x : ConnectionsView). BecomesAt (AnswersOn c.args.turn) c.args.at x.table c.answer.new.table.items) c.self.view_is (answers_at v c.args.at c.args.turn c.args.reply c.answer.new.table.items c.in_ok-said.said here c.in_ok-said.ensures)

pub returns-clause-told : goal.returns-clause-told
returns-clause-told c =
    let s = c.self.inside in
    let v : ConnectionsView = record { dialect = s.dialect; table = s.table.items; next = s.next; first = s.first; heard = s.history.heard; given = s.history.given; passed = s.history.passed; taken = s.taken.items; replied = s.replied.items } in
    let here : is_here c.args.at.number s.table.items c.args.at.key ≡ true = search rules in
    subst (λ (x : ConnectionsView). IsToldAt c.args.at x.table c.answer.new.table.items c.in_ok-said.said) c.self.view_is (answered_told v c.args.at c.args.turn c.args.reply c.answer.new.table.items c.in_ok-said.said here c.in_ok-said.ensures)

pub returns-clause-answered : goal.returns-clause-answered
returns-clause-answered c =
    let s = c.self.inside in
    let v : ConnectionsView = record { dialect = s.dialect; table = s.table.items; next = s.next; first = s.first; heard = s.history.heard; given = s.history.given; passed = s.history.passed; taken = s.taken.items; replied = s.replied.items } in
    let here : is_here c.args.at.number s.table.items c.args.at.key ≡ true = search rules in
    subst (λ (x : ConnectionsView). IsAnsweredAt c.args.at c.args.turn c.args.reply x.table c.answer.new.table.items c.in_ok-said.said) c.self.view_is (answered_at v c.args.at c.args.turn c.args.reply c.answer.new.table.items c.in_ok-said.said here c.in_ok-said.ensures)
