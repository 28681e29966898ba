use Rattle.std.proofs.Common.{rules, ◌≡◌, List, Option, refl, sym, ap, ◌∙◌, subst}
use Rattle.connections.specs.Connection.{ConnectionView}
use Rattle.connections.specs.Connections.{ConnectionsView}
use Rattle.connections.specs.Slots.{written_at, is_untaken_in}
use Rattle.service.specs.declared.note.Waiting.{Waiting}
use Rattle.service.specs.Owed.{StillRemembers, queue_with}
use Rattle.service.proofs.OwedLemmas.{written_remembers}
use Rattle.service.proofs.hearing.write_at.Goals as goal

abbrev Table : Type 0
Table = List (Option ConnectionView)

pub returns-clause-remembers : goal.returns-clause-remembers
returns-clause-remembers c =
    let same : c.has_room_for.new.connections ≡ c.args.connections.now = search rules in
    let queue = c.has_room_for.new.queue.items in
    let old = c.has_room_for.new.connections.table in
    let w : Waiting = record { at = c.args.at; since = c.args.since } in
    let now : c.written.new.self.table ≡ written_at c.args.at c.args.count old = ap (λ (v : ConnectionsView). v.table) c.written.ensures in
    let joins : c.enqueue.new.queue.items ≡ queue_with (is_untaken_in c.args.at.number (written_at c.args.at c.args.count old) c.args.at.key) queue w = c.enqueue.ensures ∙ ap (λ (t : Table). queue_with (is_untaken_in c.args.at.number t c.args.at.key) queue w) now in
    subst (λ (z : List Waiting × List Waiting × Table × Table). StillRemembers z.0 z.1 z.2 z.3) (λ i. (c.has_room_for.ensures.queue i, sym joins i, (same i).table, sym now i))
    (written_remembers queue old c.args.at c.args.count w refl)
