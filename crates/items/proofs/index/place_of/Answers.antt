use Rattle.std.proofs.lemmas.Fn.{always_returns_same}
use Rattle.std.proofs.Common.{rules}
use Rattle.base.proofs.Sorted.{found, absent}
use Rattle.items.specs.Index.{by_due}
use Rattle.items.proofs.IndexLemmas.{by_due_total, by_due_only}
use Rattle.items.proofs.index.place_of.Goals as goal

pub returns-clause-found : goal.returns-clause-found
returns-clause-found c =
    let by_place = c.binary_search_by.ensures.position (λ y. by_due y.0 (c.args.time, c.args.key.now)) (always_returns_same _ _ _ (λ a r f called. search rules)) in
    found by_due_total by_due_only c.args.index.now c.requires (c.args.time, c.args.key.now) c.binary_search_by.result c.binary_search_by.ensures.bound by_place

pub returns-clause-absent : goal.returns-clause-absent
returns-clause-absent c =
    let by_place = c.binary_search_by.ensures.position (λ y. by_due y.0 (c.args.time, c.args.key.now)) (always_returns_same _ _ _ (λ a r f called. search rules)) in
    absent by_due_total c.args.index.now c.requires (c.args.time, c.args.key.now) c.binary_search_by.result c.binary_search_by.ensures.bound by_place
