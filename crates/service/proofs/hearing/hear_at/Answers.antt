use Rattle.std.proofs.Common.{rules, ◌≡◌, List, Option, refl, sym, subst}
use Rattle.connections.specs.Connection.{ConnectionView}
use Rattle.connections.specs.Connections.{ConnectionsView}
use Rattle.service.specs.declared.note.Waiting.{Waiting}
use Rattle.service.specs.Owed.{StillRemembers}
use Rattle.service.proofs.OwedLemmas.{left_remembers, heard_remembers}
use Rattle.connections.specs.Told.{IsToldAt}
use Rattle.service.proofs.hearing.hear_at.Goals as goal

abbrev Table : Type 0
Table = List (Option ConnectionView)

pub returns-in_err-said-clause-remembers : goal.returns-in_err-said-clause-remembers
returns-in_err-said-clause-remembers c =
    let same : c.has_room_for.new.connections ≡ c.args.connections.now = search rules in
    subst (λ (z : List Waiting × Table). StillRemembers c.args.queue.now.items z.0 z.1 c.hear.new.self.table) (λ i. (sym c.has_room_for.ensures.queue i, (same i).table))
    (left_remembers c.args.queue.now.items c.has_room_for.new.connections.table c.hear.new.self.table c.args.at c.in_err-said.ensures.left)

pub returns-clause-remembers : goal.returns-clause-remembers
returns-clause-remembers c =
    let same : c.has_room_for.new.connections ≡ c.args.connections.now = search rules in
    subst (λ (z : List Waiting × List Waiting × Table). StillRemembers z.0 z.1 z.2 c.hear.new.self.table) (λ i. (c.has_room_for.ensures.queue i, sym c.enqueue.ensures i, (same i).table))
    (heard_remembers c.has_room_for.new.queue.items c.has_room_for.new.connections.table c.hear.new.self.table c.args.at (record { at = c.args.at; since = c.args.micros }) refl c.hear.ensures.same_others c.in_ok-said.ensures.reads)

pub returns-clause-told : goal.returns-clause-told
returns-clause-told c =
    let same : c.has_room_for.new.connections ≡ c.args.connections.now = search rules in
    subst (λ (v : ConnectionsView). IsToldAt c.args.at v.table c.hear.new.self.table c.in_ok-said.said) same c.in_ok-said.ensures.told
