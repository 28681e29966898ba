use Rattle.std.proofs.lemmas.Fn.{always_returns_same}
use Rattle.std.proofs.Common.{rules}
use Rattle.base.proofs.Sorted.{found, absent}
use Rattle.base.proofs.entries.place_of.Goals as goal

pub returns-clause-found : goal.returns-clause-found
returns-clause-found g c =
    let by_key = c.binary_search_by.ensures.position (λ y. g.K.Ord.cmp y.0 c.args.key.now) (always_returns_same _ _ _ (λ a r f called. search rules)) in
    found g.met.K.Ord.total g.met.K.MapKey.only_equal_tie c.args.entries.now c.requires c.args.key.now c.binary_search_by.result c.binary_search_by.ensures.bound by_key

pub returns-clause-absent : goal.returns-clause-absent
returns-clause-absent g c =
    let by_key = c.binary_search_by.ensures.position (λ y. g.K.Ord.cmp y.0 c.args.key.now) (always_returns_same _ _ _ (λ a r f called. search rules)) in
    absent g.met.K.Ord.total c.args.entries.now c.requires c.args.key.now c.binary_search_by.result c.binary_search_by.ensures.bound by_key
