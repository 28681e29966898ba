use Rattle.std.proofs.Common.{◌≡◌, ◌∙◌, ap, ◌++◌, ◌∷◌, [], Ok, Err, Result, None, nat_eq, OnOk, IsOk, filter, not, arith}
use Rattle.indexmap.proofs.CallerLemmas.{insert_entry-new}
use Rattle.indexmap.specs.IndexMap.{get}
use Rattle.batches.proofs.HeldLemmas.{remove_entry-filter}
use Rattle.batches.proofs.held.set_last.Goals as goal

of_ok : {T E : Type 0} (r : Result T E) (P : Type 0) → IsOk r → OnOk r P → P
of_ok (Ok x) P i h = h
of_ok (Err e) P i h = cc i

pub returns-clause-ok : goal.returns-clause-ok
returns-clause-ok g c =
    let gone : get nat_eq c.shift_remove.new.self c.args.key ≡ None = c.shift_remove.ensures.updates.1 in
    let is = c.insert.ensures.succeeds (omega (arith, c.in_ok-reserve.ensures.ok, c.shift_remove.ensures.room.0)) in
    of_ok c.insert.result _ is c.insert.ensures.entries
    ∙ insert_entry-new nat_eq c.shift_remove.new.self c.args.key c.args.value gone
    ∙ ap (λ es. es ++ (c.args.key, c.args.value) ∷ []) (c.shift_remove.ensures.entries ∙ remove_entry-filter c.args.key c.reserve.new.self.entries c.reserve.ensures.unique ∙ ap (filter (λ e. not (nat_eq c.args.key e.0))) c.reserve.ensures.entries)
