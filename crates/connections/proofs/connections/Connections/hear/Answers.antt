use Rattle.std.proofs.Common.{rules, ◌≡◌, true, false, ℕ, List, [], ◌∷◌, ◌++◌, sym, ap, ◌∙◌, subst}
use Rattle.std.specs.Prelude.{Result, Ok, Err, OnErr}
use Rattle.grammar.specs.Reads.{with_mark}
use Rattle.connections.specs.Slots.{is_of_connection, is_here, left_at, HasSameOthers, FeedsAt}
use Rattle.connections.specs.Connections.{ConnectionsView, IsConnections}
use Rattle.connections.proofs.AtLemmas.{comes_so, fed_at_keeps, failed_comes, failed_leaves, closed_leaves, fed_others}
use Rattle.connections.specs.Owed.{ReadsFurther, BecomesAt}
use Rattle.connections.proofs.OwedLemmas.{reads_at, failed_table, left_same}
use Rattle.connections.specs.Told.{IsToldAt, IsFedAt}
use Rattle.connections.proofs.ToldLemmas.{fed_at, fed_told}
use Rattle.connections.proofs.KeepLemmas.{relogged}
use Rattle.connections.proofs.connections.Connections.hear.Goals as goal

on_err : {T E : Type 0} (r : Result T E) (P : Type 0) → P → OnErr r P
on_err (Ok x) P p = tt
on_err (Err e) P p = p

pub invariant_of-self : goal.invariant_of-self
invariant_of-self c =
    let s = c.self.inside in
    let v : ConnectionsView = record { dialect = s.dialect; table = s.table.items; next = s.next; first = s.first; heard = s.history.heard; given = s.history.given; passed = s.history.passed; taken = s.taken.items; replied = s.replied.items } in
    let here : is_here c.args.at.number s.table.items c.args.at.key ≡ true = search rules in
    subst IsConnections (λ i. record v { table = c.feed.new.table.items; heard = c.hear.new.self.heard; given = sym c.hear.ensures.given i; passed = c.hear.new.self.passed })
    (relogged _ c.hear.new.self.passed (failed_comes v c.args.at c.args.conditions.now.is_full c.args.piece.items c.feed.new.table.items _ c.hear.new.self.heard c.self.invariant here c.in_err-said.ensures c.hear.ensures.heard))

pub returns-in_err-said-clause-leaves : goal.returns-in_err-said-clause-leaves
returns-in_err-said-clause-leaves c =
    let s = c.self.inside in
    let v : ConnectionsView = record { dialect = s.dialect; table = s.table.items; next = s.next; first = s.first; heard = s.history.heard; given = s.history.given; passed = s.history.passed; taken = s.taken.items; replied = s.replied.items } in
    let here : is_here c.args.at.number s.table.items c.args.at.key ≡ true = search rules in
    on_err _ _ (ap (is_of_connection c.args.at.number) (failed_leaves v c.args.at _ c.feed.new.table.items _ here c.in_err-said.ensures))

pub invariant_of-self-2 : goal.invariant_of-self-2
invariant_of-self-2 c =
    let s = c.self.inside in
    let v : ConnectionsView = record { dialect = s.dialect; table = s.table.items; next = s.next; first = s.first; heard = s.history.heard; given = s.history.given; passed = s.history.passed; taken = s.taken.items; replied = s.replied.items } in
    let here : is_here c.args.at.number s.table.items c.args.at.key ≡ true = search rules in
    let comes = with_mark s.dialect c.args.conditions.now.is_full c.args.piece.items in
    let fed = subst (λ (x : List ℕ). FeedsAt c.args.at x v.table c.feed.new.table.items (Ok c.in_ok-said.said)) (comes_so v c.self.invariant c.args.at c.args.conditions.now.is_full c.args.piece.items here) c.in_ok-said.ensures in
    relogged _ c.give.new.self.passed (fed_at_keeps v c.args.at comes c.feed.new.table.items c.in_ok-said.said c.give.new.self.heard c.give.new.self.given c.self.invariant here fed
    (c.give.ensures.heard ∙ c.hear.ensures.heard) (c.give.ensures.given ∙ ap (λ (log : List (ℕ × List ℕ)). log ++ (c.args.at.number, c.in_ok-said.said.bytes.items) ∷ []) c.hear.ensures.given))

pub returns-clause-closes : goal.returns-clause-closes
returns-clause-closes c =
    let s = c.self.inside in
    let v : ConnectionsView = record { dialect = s.dialect; table = s.table.items; next = s.next; first = s.first; heard = s.history.heard; given = s.history.given; passed = s.history.passed; taken = s.taken.items; replied = s.replied.items } in
    let here : is_here c.args.at.number s.table.items c.args.at.key ≡ true = search rules in
    closed_leaves v c.args.at _ c.feed.new.table.items c.in_ok-said.said here c.in_ok-said.ensures

pub returns-in_err-said-clause-same_others : goal.returns-in_err-said-clause-same_others
returns-in_err-said-clause-same_others c = subst (λ (v : ConnectionsView). HasSameOthers c.args.at.key v.table c.feed.new.table.items) c.self.view_is
    (fed_others c.args.at _ c.self.inside.table.items c.feed.new.table.items _ c.in_err-said.ensures)

pub returns-clause-same_others : goal.returns-clause-same_others
returns-clause-same_others c = subst (λ (v : ConnectionsView). HasSameOthers c.args.at.key v.table c.feed.new.table.items) c.self.view_is
    (fed_others c.args.at _ c.self.inside.table.items c.feed.new.table.items _ c.in_ok-said.ensures)

pub returns-in_err-said-clause-left : goal.returns-in_err-said-clause-left
returns-in_err-said-clause-left c =
    let s = c.self.inside in
    let v : ConnectionsView = record { dialect = s.dialect; table = s.table.items; next = s.next; first = s.first; heard = s.history.heard; given = s.history.given; passed = s.history.passed; taken = s.taken.items; replied = s.replied.items } in
    let here : is_here c.args.at.number s.table.items c.args.at.key ≡ true = search rules in
    on_err _ _ (subst (λ (x : ConnectionsView). c.feed.new.table.items ≡ left_at c.args.at x.table) c.self.view_is (failed_table v c.args.at _ c.feed.new.table.items _ here c.in_err-said.ensures))

pub returns-then-not-is_here-clause-left : goal.returns-then-not-is_here-clause-left
returns-then-not-is_here-clause-left c =
    let not_here : is_here c.args.at.number c.args.self.now.table c.args.at.key ≡ false = search rules in
    sym (left_same c.args.at c.args.self.now.table not_here)

pub returns-clause-reads : goal.returns-clause-reads
returns-clause-reads c =
    let s = c.self.inside in
    let v : ConnectionsView = record { dialect = s.dialect; table = s.table.items; next = s.next; first = s.first; heard = s.history.heard; given = s.history.given; passed = s.history.passed; taken = s.taken.items; replied = s.replied.items } in
    let here : is_here c.args.at.number s.table.items c.args.at.key ≡ true = search rules in
    subst (λ (x : ConnectionsView). BecomesAt ReadsFurther c.args.at x.table c.feed.new.table.items) c.self.view_is (reads_at v c.args.at _ c.feed.new.table.items c.in_ok-said.said here c.in_ok-said.ensures)

pub returns-clause-told : goal.returns-clause-told
returns-clause-told c =
    let s = c.self.inside in
    let v : ConnectionsView = record { dialect = s.dialect; table = s.table.items; next = s.next; first = s.first; heard = s.history.heard; given = s.history.given; passed = s.history.passed; taken = s.taken.items; replied = s.replied.items } in
    let here : is_here c.args.at.number s.table.items c.args.at.key ≡ true = search rules in
    subst (λ (x : ConnectionsView). IsToldAt c.args.at x.table c.feed.new.table.items c.in_ok-said.said) c.self.view_is (fed_told v c.args.at _ c.feed.new.table.items c.in_ok-said.said here c.in_ok-said.ensures)

pub returns-clause-fed : goal.returns-clause-fed
returns-clause-fed c =
    let s = c.self.inside in
    let v : ConnectionsView = record { dialect = s.dialect; table = s.table.items; next = s.next; first = s.first; heard = s.history.heard; given = s.history.given; passed = s.history.passed; taken = s.taken.items; replied = s.replied.items } in
    let here : is_here c.args.at.number s.table.items c.args.at.key ≡ true = search rules in
    let full = c.args.conditions.now.is_full in
    let fed = subst (λ (x : List ℕ). FeedsAt c.args.at x v.table c.feed.new.table.items (Ok c.in_ok-said.said)) (comes_so v c.self.invariant c.args.at full c.args.piece.items here) c.in_ok-said.ensures in
    subst (λ (x : ConnectionsView). IsFedAt c.args.at (with_mark x.dialect full c.args.piece.items) x.table c.feed.new.table.items c.in_ok-said.said) c.self.view_is (fed_at v c.args.at (with_mark v.dialect full c.args.piece.items) c.feed.new.table.items c.in_ok-said.said here fed)
