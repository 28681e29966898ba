use Rattle.std.proofs.Common.{rules, ◌≡◌, ◌≤◌, ◌<◌, ◌+◌, ℕ, List, Option, Some, sym, ap, ◌∙◌, subst, length, slice_set}
use Rattle.connections.specs.Connection.{ConnectionView, new_connection}
use Rattle.connections.specs.Slots.{slot_in}
use Rattle.connections.specs.Connections.{ConnectionsView, IsConnections}
use Rattle.connections.proofs.SlotLemmas.{there, set_slot}
use Rattle.connections.proofs.KeepLemmas.{grown_keeps, came_keeps}
use Rattle.connections.proofs.connections.Connections.come.Goals as goal

pub invariant_of-self : goal.invariant_of-self
invariant_of-self c =
    let s = c.self.inside in
    let v : ConnectionsView = record { dialect = s.dialect; table = s.table.items; next = s.next; first = s.first; heard = s.history.heard; given = s.history.given; passed = s.history.passed; taken = s.taken.items; replied = s.replied.items } in
    grown_keeps v c.grow_to.new.table.items c.self.invariant c.grow_to.ensures.grown

pub invariant_of-self-2 : goal.invariant_of-self-2
invariant_of-self-2 c =
    let s = c.self.inside in
    let v : ConnectionsView = record { dialect = s.dialect; table = s.table.items; next = s.next; first = s.first; heard = s.history.heard; given = s.history.given; passed = s.history.passed; taken = s.taken.items; replied = s.replied.items } in
    let at = c.args.at in
    let table = c.grow_to.new.table.items in
    let fits : at.key < length table = search rules in
    let above : s.next ≤ at.number = search rules in
    let next : c.in_ok-next.next ≡ at.number + 1 = search rules in
    let set : c.put.new.table.items ≡ slice_set table at.key (Some (new_connection s.dialect at.number)) = c.put.ensures ∙ ap (λ (x : ConnectionView). slice_set table at.key (Some x)) c.new.ensures in
    subst (λ (z : List (Option ConnectionView) × ℕ). IsConnections (record v { table = z.0; next = z.1 })) (λ i. (sym set i, sym next i))
    (came_keeps v c.self.invariant table c.grow_to.ensures.grown at.key at.number fits above)

pub returns-clause-here : goal.returns-clause-here
returns-clause-here c =
    let s = c.self.inside in
    let at = c.args.at in
    let table = c.grow_to.new.table.items in
    let fits : at.key < length table = search rules in
    let t = there table at.key fits in
    let set : c.put.new.table.items ≡ slice_set table at.key (Some (new_connection s.dialect at.number)) = c.put.ensures ∙ ap (λ (x : ConnectionView). slice_set table at.key (Some x)) c.new.ensures in
    subst (λ (x : ConnectionsView). slot_in c.put.new.table.items at.key ≡ Some (new_connection x.dialect at.number)) c.self.view_is
    (ap (λ (x : List (Option ConnectionView)). slot_in x at.key) set ∙ set_slot table at.key (Some (new_connection s.dialect at.number)) t.0 t.1)
